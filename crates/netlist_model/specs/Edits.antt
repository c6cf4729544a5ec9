-- What an edit does, and what edits in turn do.
use Rattle.std.specs.Prelude.{ℕ, ◌+◌, List, [], ◌∷◌, Result, Ok, Err, true}
use Rattle.cell_arcs.specs.Steps.{◌>>=◌}
use Rattle.cell_arcs.specs.declared.cells.Cell.{Cell}
use Rattle.netlist_model.specs.Circuit.{Circuit}
use Rattle.netlist_model.specs.Deletions.{del_inst, del_net, del_fork}
use Rattle.netlist_model.specs.Statements.{add_net, add_const, add_inst, move_pin, swap_cell, set_delay, set_tick, set_root, add_fork}
use Rattle.netlist_model.specs.declared.edits.Edit.{Edit}
use Rattle.netlist_model.specs.declared.edits.Edit.TheVariants.{Net, Const, Inst, DelInst, DelNet, Move, Swap, Delay, Tick, Root, Fork, DelFork}
use Rattle.netlist_model.specs.declared.faults.EditFault.{EditFault}
use Rattle.netlist_model.specs.declared.faults.EditFault.TheVariants.{At}
use Rattle.netlist_model.specs.declared.faults.StatementFault.{StatementFault}

-- the netlist after an edit, or why it is refused; a root replaces the one that stands
abbrev pub made : List Cell → Circuit → Edit → Result Circuit StatementFault
made library c (Net name) = add_net c name
made library c (Const name) = add_const c name
made library c (Inst i) = add_inst library c i.name i.cell i.pins
made library c (DelInst name) = del_inst c name
made library c (DelNet name) = del_net c name
made library c (Move m) = move_pin library c m.inst m.pin m.net
made library c (Swap s) = swap_cell library c s.inst s.cell
made library c (Delay d) = set_delay library c d.inst d.pin d.rise d.fall
made library c (Tick t) = set_tick c t.source t.target t.count
made library c (Root event) = set_root c event true
made library c (Fork f) = add_fork c f.name f.root f.fast f.slow f.margin f.offset
made library c (DelFork name) = del_fork c name

-- a statement's fault, with its edit's position
abbrev pub at_edit : ℕ → Result Circuit StatementFault → Result Circuit EditFault
at_edit n (Ok c) = Ok c
at_edit n (Err e) = Err (At n e)

-- the netlist after edits in turn, or the first of them that is refused; the first of the list has the position n
unfoldable pub edited_from : List Cell → ℕ → List Edit → Circuit → Result Circuit EditFault
edited_from library n [] c = Ok c
edited_from library n (e ∷ more) c = at_edit n (made library c e) >>= edited_from library (n + 1) more

-- the netlist after edits in turn, or the first of them that is refused; positions count from 1
abbrev pub edited : List Cell → List Edit → Circuit → Result Circuit EditFault
edited library edits c = edited_from library 1 edits c
