-- A fault of a netlist's system is a finding of the netlist.
use Rattle.std.proofs.Common.{◌≡◌, ◌<◌, ℕ, List, All, length, map, sym, slice_index_or}
use Rattle.std.proofs.lemmas.List.Elements.{All-map}
use Rattle.cell_arcs.specs.declared.cells.Cell.{Cell}
use Rattle.netlist_model.specs.Circuit.{Circuit}
use Rattle.rule_system.specs.Bounds.{EventRules}
use Rattle.rule_system.specs.Rules.{source_of}
use Rattle.rule_system.specs.Walks.{EndsBelow}
use Rattle.rule_system.specs.declared.rules.Rule.{Rule}
use Rattle.liveness_check.specs.Liveness.{IsFault}
use Rattle.liveness_check.specs.declared.faults.LiveFault.{LiveFault}
use Rattle.liveness_check.specs.declared.faults.LiveFault.TheVariants as live
use Rattle.event_expand.specs.Systems.{system_of}
use Rattle.netlist_analysis.specs.Findings.{IsSystemFault, IsRooted, AreDeadEvents}

module _ (library : List Cell) (c : Circuit) (system : EventRules) (root : ℕ) (same : system ≡ system_of library c) (rooted : IsRooted library c root) where
  pub fault_is : (fault : LiveFault) → IsFault system.events system.rules root fault → IsSystemFault library c fault
  fault_is fault holds = record { root = root; rooted = rooted; holds = rw same at holds }

  pub dead_is : (cycle events : List ℕ) → IsFault system.events system.rules root (live.Dead cycle) → events ≡ map (source_of system.rules) cycle
      → AreDeadEvents library c events
  dead_is cycle events holds told = record { cycle = cycle; holds = fault_is (live.Dead cycle) holds; sources = sym (rw same at told) }

-- the sources of a cycle's rules are events of the system
pub sources_below : (events : ℕ) (rules : List Rule) (cycle names : List ℕ) → EndsBelow events rules → All (λ n. n < length rules) cycle
    → names ≡ map (source_of rules) cycle → All (λ event. event < events) names
sources_below events rules cycle names ends within told =
    rw told (All-map (λ event. event < events) (source_of rules) cycle (λ k d inside. (ends (slice_index_or cycle k d) (within k d inside)).0))
