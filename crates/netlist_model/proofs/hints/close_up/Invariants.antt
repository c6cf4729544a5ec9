use Rattle.std.proofs.Common.{◌≡◌, ◌++◌, map, take, drop}
use Rattle.netlist_model.specs.Hints.{held_after}
use Rattle.netlist_model.proofs.hints.close_up.Given as goal

abbrev pub invariant-loop-held : goal.invariant-loop-held
invariant-loop-held l = l.slots ≡ map (held_after l.gone) (take l.held-index l.fn.slots) ++ drop l.held-index l.fn.slots
