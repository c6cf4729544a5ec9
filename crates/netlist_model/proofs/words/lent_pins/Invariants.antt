use Rattle.std.proofs.Common.{◌≡◌, take}
use Rattle.netlist_model.proofs.words.lent_pins.Given as goal

abbrev pub invariant-loop-pin : goal.invariant-loop-pin
invariant-loop-pin l = l.words.items ≡ take l.pin-index l.pins
