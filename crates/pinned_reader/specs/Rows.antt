-- A version: a netlist over a library with the edits that led to it, its system and its analysis.
use Rattle.std.specs.Prelude.{◌≡◌, ◌*◌, List, length, Ok}
use Rattle.cell_arcs.specs.declared.cells.Cell.{Cell}
use Rattle.netlist_model.specs.Circuit.{Circuit}
use Rattle.netlist_model.specs.Edits.{edited}
use Rattle.netlist_model.specs.Sound.{Fits}
use Rattle.netlist_model.specs.declared.edits.Edit.{Edit}
use Rattle.rule_system.specs.Bounds.{EventRules}
use Rattle.event_expand.specs.Systems.{system_of}
use Rattle.analysis.specs.declared.analyses.Analysis.{Analysis}
use Rattle.netlist_analysis.specs.Findings.{IsNetlistAnalysis, IsNetlistFault, NamesBelow}
use Rattle.netlist_analysis.specs.declared.faults.NetlistFault.{NetlistFault}

-- what contracts see of a row
pub record RowState : Type 0 where
  pub library : List Cell
  pub edits : List Edit
  pub netlist : Circuit
  pub system : EventRules
  pub analysis : Analysis

-- the state of these parts
abbrev pub state_of : List Cell → List Edit → Circuit → EventRules → Analysis → RowState
state_of library edits netlist system analysis = record {
  library = library;
  edits = edits;
  netlist = netlist;
  system = system;
  analysis = analysis;
}

-- what holds of every row: its netlist fits its library and is whole, its system is the netlist's expansion, and its
-- analysis is that system's, from the netlist's root and with its forks
pub record IsRow (row : RowState) : Type 0 where
  pub fits : Fits row.library row.netlist.insts
  pub system : row.system ≡ system_of row.library row.netlist
  pub analysis : IsNetlistAnalysis row.library row.netlist row.analysis

-- a row follows its parent: it has the parent's library, and the netlist that its own edits make of the parent's
pub record IsAfter (row parent : RowState) : Type 0 where
  pub library : row.library ≡ parent.library
  pub netlist : edited parent.library row.edits parent.netlist ≡ Ok row.netlist

-- the edits apply to the row's netlist
pub record Applies (row : RowState) (edits : List Edit) : Type 0 where
  pub made : Circuit
  pub accepted : edited row.library edits row.netlist ≡ Ok made

-- the netlist that the edits make of the row's has this fault, whose events are the netlist's
pub record IsNextFault (row : RowState) (edits : List Edit) (fault : NetlistFault) : Type 0 where
  pub made : Circuit
  pub accepted : edited row.library edits row.netlist ≡ Ok made
  pub holds : IsNetlistFault row.library made fault
  pub events : NamesBelow (2 * length made.nets) fault
