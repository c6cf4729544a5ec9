-- The first edit of a list that is refused.
use Rattle.std.specs.Prelude.{◌≡◌, ◌+◌, ℕ, List, ◌∷◌, ◌++◌, length, Ok, Err}
use Rattle.cell_arcs.specs.declared.cells.Cell.{Cell}
use Rattle.netlist_model.specs.Circuit.{Circuit}
use Rattle.netlist_model.specs.Edits.{made, edited}
use Rattle.netlist_model.specs.declared.edits.Edit.{Edit}
use Rattle.netlist_model.specs.declared.faults.StatementFault.{StatementFault}

-- one of the edits is refused on the netlist that those before it make; positions count from 1
pub record IsFirstRefused (library : List Cell) (edits : List Edit) (c : Circuit) (n : ℕ) (e : StatementFault) : Type 0 where
  pub before : List Edit
  pub edit : Edit
  pub after : List Edit
  pub parts : edits ≡ before ++ edit ∷ after
  pub position : n ≡ length before + 1
  pub reached : Circuit
  pub accepted : edited library before c ≡ Ok reached
  pub refused : made library reached edit ≡ Err e
