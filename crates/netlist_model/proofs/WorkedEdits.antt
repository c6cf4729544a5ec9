-- Small netlists on which the statements that take away, move and swap are worked out.
use Rattle.std.proofs.Common.{◌≡◌, List, [], ◌∷◌, Some, None, Ok, Err, refl}
use Rattle.cell_arcs.specs.declared.cells.Cell.{Cell}
use Rattle.cell_arcs.specs.declared.cells.Sense.TheVariants.{Neg}
use Rattle.netlist_model.specs.Circuit.{Circuit}
use Rattle.netlist_model.specs.Deletions.{del_inst, del_net, del_fork}
use Rattle.netlist_model.specs.Statements.{move_pin, swap_cell}
use Rattle.netlist_model.specs.declared.faults.StatementFault.TheVariants.{UnknownNet, UnknownCell, UnknownInst, UnknownPin, BadPins, DriverTaken, ConstDriven, UnknownFork, StillUsed}
use Rattle.netlist_model.specs.declared.parts.NetRef.TheVariants.{Net, Const}

abbrev cells : List Cell
cells = (record { name = (118 ∷ []); inputs = (65 ∷ []) ∷ []; output = (90 ∷ []); arcs = record { from = 0; sense = Neg; rise = 12; fall = 10 } ∷ [] }) ∷ (record { name = (111 ∷ []); inputs = (65 ∷ []) ∷ (66 ∷ []) ∷ []; output = (90 ∷ []); arcs = record { from = 0; sense = Neg; rise = 12; fall = 10 } ∷ record { from = 1; sense = Neg; rise = 12; fall = 10 } ∷ [] }) ∷ (record { name = (98 ∷ []); inputs = (65 ∷ []) ∷ []; output = (90 ∷ []); arcs = record { from = 0; sense = Neg; rise = 12; fall = 10 } ∷ [] }) ∷ (record { name = (121 ∷ []); inputs = (65 ∷ []) ∷ []; output = (89 ∷ []); arcs = record { from = 0; sense = Neg; rise = 12; fall = 10 } ∷ [] }) ∷ []

-- nets A, B, C and D; constants r and s; i drives B from A and j drives D from s; C and r are not used
abbrev whole : Circuit
whole = record {
  nets = (65 ∷ []) ∷ (66 ∷ []) ∷ (67 ∷ []) ∷ (68 ∷ []) ∷ [];
  consts = (114 ∷ []) ∷ (115 ∷ []) ∷ [];
  insts = (record { name = (105 ∷ []); cell = 0; pins = Net 0 ∷ Net 1 ∷ []; delays = Some (record { rise = 1; fall = 2 }) ∷ [] }) ∷ (record { name = (106 ∷ []); cell = 0; pins = Const 1 ∷ Net 3 ∷ []; delays = None ∷ [] }) ∷ [];
  ticks = (record { source = 6; target = 3; count = 2 }) ∷ (record { source = 0; target = 7; count = 1 }) ∷ [];
  forks = (record { name = (102 ∷ []); root = 6; fast = 7; slow = 3; margin = 5; offset = 1 }) ∷ (record { name = (103 ∷ []); root = 0; fast = 1; slow = 2; margin = 5; offset = 1 }) ∷ [];
  root = Some 7;
}

abbrev after_c : Circuit
after_c = record {
  nets = (65 ∷ []) ∷ (66 ∷ []) ∷ (68 ∷ []) ∷ [];
  consts = (114 ∷ []) ∷ (115 ∷ []) ∷ [];
  insts = (record { name = (105 ∷ []); cell = 0; pins = Net 0 ∷ Net 1 ∷ []; delays = Some (record { rise = 1; fall = 2 }) ∷ [] }) ∷ (record { name = (106 ∷ []); cell = 0; pins = Const 1 ∷ Net 2 ∷ []; delays = None ∷ [] }) ∷ [];
  ticks = (record { source = 4; target = 3; count = 2 }) ∷ (record { source = 0; target = 5; count = 1 }) ∷ [];
  forks = (record { name = (102 ∷ []); root = 4; fast = 5; slow = 3; margin = 5; offset = 1 }) ∷ (record { name = (103 ∷ []); root = 0; fast = 1; slow = 2; margin = 5; offset = 1 }) ∷ [];
  root = Some 5;
}

-- D, behind C, moves up: its pin, its events in ticks, forks and the root
net_gone : del_net whole (67 ∷ []) ≡ Ok after_c
unfolding del_net
net_gone = refl

abbrev after_r : Circuit
after_r = record {
  nets = (65 ∷ []) ∷ (66 ∷ []) ∷ (67 ∷ []) ∷ (68 ∷ []) ∷ [];
  consts = (115 ∷ []) ∷ [];
  insts = (record { name = (105 ∷ []); cell = 0; pins = Net 0 ∷ Net 1 ∷ []; delays = Some (record { rise = 1; fall = 2 }) ∷ [] }) ∷ (record { name = (106 ∷ []); cell = 0; pins = Const 0 ∷ Net 3 ∷ []; delays = None ∷ [] }) ∷ [];
  ticks = (record { source = 6; target = 3; count = 2 }) ∷ (record { source = 0; target = 7; count = 1 }) ∷ [];
  forks = (record { name = (102 ∷ []); root = 6; fast = 7; slow = 3; margin = 5; offset = 1 }) ∷ (record { name = (103 ∷ []); root = 0; fast = 1; slow = 2; margin = 5; offset = 1 }) ∷ [];
  root = Some 7;
}

const_gone : del_net whole (114 ∷ []) ≡ Ok after_r
unfolding del_net
const_gone = refl

input_used : del_net whole (65 ∷ []) ≡ Err StillUsed
unfolding del_net
input_used = refl

const_used : del_net whole (115 ∷ []) ≡ Err StillUsed
unfolding del_net
const_used = refl

net_unknown : del_net whole (81 ∷ []) ≡ Err UnknownNet
unfolding del_net
net_unknown = refl

output_uses : del_net (record { nets = (65 ∷ []) ∷ (66 ∷ []) ∷ []; consts = (114 ∷ []) ∷ []; insts = (record { name = (105 ∷ []); cell = 0; pins = Net 1 ∷ Net 0 ∷ []; delays = None ∷ [] }) ∷ []; ticks = []; forks = []; root = None }) (65 ∷ []) ≡ Err StillUsed
unfolding del_net
output_uses = refl

tick_source_uses : del_net (record { nets = (65 ∷ []) ∷ (66 ∷ []) ∷ []; consts = (114 ∷ []) ∷ []; insts = []; ticks = (record { source = 1; target = 2; count = 1 }) ∷ []; forks = []; root = None }) (65 ∷ []) ≡ Err StillUsed
unfolding del_net
tick_source_uses = refl

tick_target_uses : del_net (record { nets = (65 ∷ []) ∷ (66 ∷ []) ∷ []; consts = (114 ∷ []) ∷ []; insts = []; ticks = (record { source = 2; target = 0; count = 1 }) ∷ []; forks = []; root = None }) (65 ∷ []) ≡ Err StillUsed
unfolding del_net
tick_target_uses = refl

root_uses : del_net (record { nets = (65 ∷ []) ∷ (66 ∷ []) ∷ []; consts = (114 ∷ []) ∷ []; insts = []; ticks = []; forks = []; root = Some 1 }) (65 ∷ []) ≡ Err StillUsed
unfolding del_net
root_uses = refl

fork_root_uses : del_net (record { nets = (65 ∷ []) ∷ (66 ∷ []) ∷ []; consts = (114 ∷ []) ∷ []; insts = []; ticks = []; forks = (record { name = (102 ∷ []); root = 1; fast = 2; slow = 2; margin = 5; offset = 1 }) ∷ []; root = None }) (65 ∷ []) ≡ Err StillUsed
unfolding del_net
fork_root_uses = refl

fork_fast_uses : del_net (record { nets = (65 ∷ []) ∷ (66 ∷ []) ∷ []; consts = (114 ∷ []) ∷ []; insts = []; ticks = []; forks = (record { name = (102 ∷ []); root = 2; fast = 0; slow = 2; margin = 5; offset = 1 }) ∷ []; root = None }) (65 ∷ []) ≡ Err StillUsed
unfolding del_net
fork_fast_uses = refl

fork_slow_uses : del_net (record { nets = (65 ∷ []) ∷ (66 ∷ []) ∷ []; consts = (114 ∷ []) ∷ []; insts = []; ticks = []; forks = (record { name = (102 ∷ []); root = 2; fast = 2; slow = 1; margin = 5; offset = 1 }) ∷ []; root = None }) (65 ∷ []) ≡ Err StillUsed
unfolding del_net
fork_slow_uses = refl

const_beside_net : del_net (record { nets = (65 ∷ []) ∷ (66 ∷ []) ∷ []; consts = (114 ∷ []) ∷ []; insts = (record { name = (105 ∷ []); cell = 0; pins = Net 0 ∷ Net 1 ∷ []; delays = None ∷ [] }) ∷ []; ticks = (record { source = 0; target = 1; count = 1 }) ∷ []; forks = []; root = Some 0 }) (114 ∷ []) ≡ Ok (record { nets = (65 ∷ []) ∷ (66 ∷ []) ∷ []; consts = []; insts = (record { name = (105 ∷ []); cell = 0; pins = Net 0 ∷ Net 1 ∷ []; delays = None ∷ [] }) ∷ []; ticks = (record { source = 0; target = 1; count = 1 }) ∷ []; forks = []; root = Some 0 })
unfolding del_net
const_beside_net = refl

net_beside_const : del_net (record { nets = (65 ∷ []) ∷ (66 ∷ []) ∷ []; consts = (114 ∷ []) ∷ []; insts = (record { name = (105 ∷ []); cell = 0; pins = Const 0 ∷ Net 1 ∷ []; delays = None ∷ [] }) ∷ []; ticks = []; forks = []; root = Some 3 }) (65 ∷ []) ≡ Ok (record { nets = (66 ∷ []) ∷ []; consts = (114 ∷ []) ∷ []; insts = (record { name = (105 ∷ []); cell = 0; pins = Const 0 ∷ Net 0 ∷ []; delays = None ∷ [] }) ∷ []; ticks = []; forks = []; root = Some 1 })
unfolding del_net
net_beside_const = refl

inst_gone : del_inst whole (105 ∷ []) ≡ Ok (record whole { insts = (record { name = (106 ∷ []); cell = 0; pins = Const 1 ∷ Net 3 ∷ []; delays = None ∷ [] }) ∷ [] })
unfolding del_inst
inst_gone = refl

inst_unknown : del_inst whole (65 ∷ []) ≡ Err UnknownInst
unfolding del_inst
inst_unknown = refl

fork_gone : del_fork whole (102 ∷ []) ≡ Ok (record whole { forks = (record { name = (103 ∷ []); root = 0; fast = 1; slow = 2; margin = 5; offset = 1 }) ∷ [] })
unfolding del_fork
fork_gone = refl

fork_unknown : del_fork whole (105 ∷ []) ≡ Err UnknownFork
unfolding del_fork
fork_unknown = refl

input_to_const : move_pin cells whole (105 ∷ []) (65 ∷ []) (114 ∷ []) ≡ Ok (record whole { insts = (record { name = (105 ∷ []); cell = 0; pins = Const 0 ∷ Net 1 ∷ []; delays = Some (record { rise = 1; fall = 2 }) ∷ [] }) ∷ (record { name = (106 ∷ []); cell = 0; pins = Const 1 ∷ Net 3 ∷ []; delays = None ∷ [] }) ∷ [] })
unfolding move_pin
input_to_const = refl

input_to_driven : move_pin cells whole (105 ∷ []) (65 ∷ []) (68 ∷ []) ≡ Ok (record whole { insts = (record { name = (105 ∷ []); cell = 0; pins = Net 3 ∷ Net 1 ∷ []; delays = Some (record { rise = 1; fall = 2 }) ∷ [] }) ∷ (record { name = (106 ∷ []); cell = 0; pins = Const 1 ∷ Net 3 ∷ []; delays = None ∷ [] }) ∷ [] })
unfolding move_pin
input_to_driven = refl

output_to_free : move_pin cells whole (105 ∷ []) (90 ∷ []) (67 ∷ []) ≡ Ok (record whole { insts = (record { name = (105 ∷ []); cell = 0; pins = Net 0 ∷ Net 2 ∷ []; delays = Some (record { rise = 1; fall = 2 }) ∷ [] }) ∷ (record { name = (106 ∷ []); cell = 0; pins = Const 1 ∷ Net 3 ∷ []; delays = None ∷ [] }) ∷ [] })
unfolding move_pin
output_to_free = refl

output_to_own : move_pin cells whole (105 ∷ []) (90 ∷ []) (66 ∷ []) ≡ Ok (record whole { insts = (record { name = (105 ∷ []); cell = 0; pins = Net 0 ∷ Net 1 ∷ []; delays = Some (record { rise = 1; fall = 2 }) ∷ [] }) ∷ (record { name = (106 ∷ []); cell = 0; pins = Const 1 ∷ Net 3 ∷ []; delays = None ∷ [] }) ∷ [] })
unfolding move_pin
output_to_own = refl

output_to_const : move_pin cells whole (105 ∷ []) (90 ∷ []) (114 ∷ []) ≡ Err ConstDriven
unfolding move_pin
output_to_const = refl

output_to_driven : move_pin cells whole (105 ∷ []) (90 ∷ []) (68 ∷ []) ≡ Err (DriverTaken 2)
unfolding move_pin
output_to_driven = refl

output_to_driven_first : move_pin cells whole (106 ∷ []) (90 ∷ []) (66 ∷ []) ≡ Err (DriverTaken 1)
unfolding move_pin
output_to_driven_first = refl

move_unknown_inst : move_pin cells whole (113 ∷ []) (113 ∷ []) (113 ∷ []) ≡ Err UnknownInst
unfolding move_pin
move_unknown_inst = refl

move_unknown_pin : move_pin cells whole (105 ∷ []) (113 ∷ []) (113 ∷ []) ≡ Err UnknownPin
unfolding move_pin
move_unknown_pin = refl

move_unknown_net : move_pin cells whole (105 ∷ []) (90 ∷ []) (113 ∷ []) ≡ Err UnknownNet
unfolding move_pin
move_unknown_net = refl

swapped : swap_cell cells whole (105 ∷ []) (98 ∷ []) ≡ Ok (record whole { insts = (record { name = (105 ∷ []); cell = 2; pins = Net 0 ∷ Net 1 ∷ []; delays = None ∷ [] }) ∷ (record { name = (106 ∷ []); cell = 0; pins = Const 1 ∷ Net 3 ∷ []; delays = None ∷ [] }) ∷ [] })
unfolding swap_cell
swapped = refl

swapped_same : swap_cell cells whole (105 ∷ []) (118 ∷ []) ≡ Ok (record whole { insts = (record { name = (105 ∷ []); cell = 0; pins = Net 0 ∷ Net 1 ∷ []; delays = None ∷ [] }) ∷ (record { name = (106 ∷ []); cell = 0; pins = Const 1 ∷ Net 3 ∷ []; delays = None ∷ [] }) ∷ [] })
unfolding swap_cell
swapped_same = refl

more_inputs : swap_cell cells whole (105 ∷ []) (111 ∷ []) ≡ Err BadPins
unfolding swap_cell
more_inputs = refl

other_output : swap_cell cells whole (105 ∷ []) (121 ∷ []) ≡ Err BadPins
unfolding swap_cell
other_output = refl

swap_unknown_cell : swap_cell cells whole (105 ∷ []) (113 ∷ []) ≡ Err UnknownCell
unfolding swap_cell
swap_unknown_cell = refl

swap_unknown_inst : swap_cell cells whole (113 ∷ []) (113 ∷ []) ≡ Err UnknownInst
unfolding swap_cell
swap_unknown_inst = refl
