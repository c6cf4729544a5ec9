use Rattle.std.proofs.Common.{take}
use Rattle.std.specs.Map.{keys_of}
use Rattle.netlist_model.specs.Hints.{hint_of}
use Rattle.netlist_model.specs.Keyed.{IsFound, names_in, number_in}
use Rattle.netlist_model.proofs.keys.noted.Given as goal

abbrev pub invariant-loop-at : goal.invariant-loop-at
invariant-loop-at l = IsFound (take l.at (names_in l.names.entries)) (take l.at (keys_of l.names.entries)) (hint_of l.hints) (number_in l.numbers)
