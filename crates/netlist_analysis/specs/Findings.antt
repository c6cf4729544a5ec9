-- What the analysis of a netlist over a library finds.
use Rattle.std.specs.Prelude.{◌≡◌, ◌<◌, ℕ, List, All, map, Some, None, Result, Ok, Err}
use Rattle.cell_arcs.specs.declared.cells.Cell.{Cell}
use Rattle.netlist_model.specs.Circuit.{Circuit}
use Rattle.netlist_model.specs.Sound.{IsNetlist}
use Rattle.netlist_model.specs.Whole.{whole_of}
use Rattle.rule_system.specs.Rules.{source_of}
use Rattle.liveness_check.specs.Liveness.{IsFault}
use Rattle.liveness_check.specs.declared.faults.LiveFault.{LiveFault}
use Rattle.liveness_check.specs.declared.faults.LiveFault.TheVariants as live
use Rattle.event_expand.specs.Systems.{system_of, system_rules, system_forks}
use Rattle.analysis.specs.Analysis.{IsAnalysis}
use Rattle.analysis.specs.declared.analyses.Analysis.{Analysis}
use Rattle.netlist_analysis.specs.declared.faults.NetlistFault.{NetlistFault}
use Rattle.netlist_analysis.specs.declared.faults.NetlistFault.TheVariants.{Whole, Unreached, NoReturn, Dead, Memory}

-- the netlist is whole, and has this root
pub record IsRooted (library : List Cell) (c : Circuit) (root : ℕ) : Type 0 where
  pub whole : whole_of library c ≡ None
  pub is_root : c.root ≡ Some root

-- of a whole netlist: the analysis of its system, from its root and with its forks
pub record IsNetlistAnalysis (library : List Cell) (c : Circuit) (analysis : Analysis) : Type 0 where
  pub root : ℕ
  pub rooted : IsRooted library c root
  pub right : IsAnalysis (system_of library c) root (system_forks c) analysis

-- of a whole netlist: the first fault of its system, from its root
pub record IsSystemFault (library : List Cell) (c : Circuit) (fault : LiveFault) : Type 0 where
  pub root : ℕ
  pub rooted : IsRooted library c root
  pub holds : IsFault (system_of library c).events (system_of library c).rules root fault

-- the source events of the rules of the dead cycle, in order
pub record AreDeadEvents (library : List Cell) (c : Circuit) (events : List ℕ) : Type 0 where
  pub cycle : List ℕ
  pub holds : IsSystemFault library c (live.Dead cycle)
  pub sources : map (source_of (system_rules library c)) cycle ≡ events

-- the first that holds of: the netlist is not whole; an event is not reached; one has no return; a cycle is dead
abbrev pub IsNetlistFault : List Cell → Circuit → NetlistFault → Type 0
IsNetlistFault library c (Whole fault) = whole_of library c ≡ Some fault
IsNetlistFault library c (Unreached event) = IsSystemFault library c (live.Unreached event)
IsNetlistFault library c (NoReturn event) = IsSystemFault library c (live.NoReturn event)
IsNetlistFault library c (Dead events) = AreDeadEvents library c events
IsNetlistFault library c Memory = ⊥

-- the events that a fault names are below a number
abbrev pub NamesBelow : ℕ → NetlistFault → Type 0
NamesBelow count (Whole fault) = Unit {0}
NamesBelow count (Unreached event) = event < count
NamesBelow count (NoReturn event) = event < count
NamesBelow count (Dead events) = All (λ event. event < count) events
NamesBelow count Memory = Unit {0}

-- an analysis, or why there is none
abbrev pub Finding : Type 0
Finding = Result Analysis NetlistFault

-- what the analysis of the netlist finds
abbrev pub IsFinding : List Cell → Circuit → Finding → Type 0
IsFinding library c (Ok analysis) = IsNetlistAnalysis library c analysis
IsFinding library c (Err fault) = IsNetlistFault library c fault

-- what is told of each netlist is what its analysis finds
abbrev pub IsTelling : List Cell → (Circuit → Finding) → Type 0
IsTelling library tell = (c : Circuit) → IsNetlist c → IsFinding library c (tell c)
