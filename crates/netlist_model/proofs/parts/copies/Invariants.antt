use Rattle.std.proofs.Common.{◌≡◌, take}
use Rattle.netlist_model.proofs.parts.copies.Given as goal

abbrev pub invariant-loop-pin : goal.invariant-loop-pin
invariant-loop-pin l = l.copies.items ≡ take l.pin-index l.pins
