use Rattle.std.proofs.Common.{◌≡◌, take}
use Rattle.netlist_reader.proofs.lent.own_pins.Given as goal

abbrev pub invariant-loop-word : goal.invariant-loop-word
invariant-loop-word l = l.pins.items ≡ take l.word-index l.words
