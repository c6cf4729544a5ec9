use Rattle.std.proofs.Common.{◌≡◌, take}
use Rattle.netlist_model.proofs.keys.Keys.copy.Given as goal

abbrev pub invariant-loop-at : goal.invariant-loop-at
invariant-loop-at l = l.copy ≡ take l.at l.self
