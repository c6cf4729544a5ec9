use Rattle.std.proofs.Common.{◌≡◌, drop}
use Rattle.netlist_model.specs.Whole.{undriven_from}
use Rattle.netlist_model.proofs.whole.first_undriven.Given as goal

abbrev pub invariant-loop-at : goal.invariant-loop-at
invariant-loop-at l = undriven_from l.insts 0 l.nets ≡ undriven_from l.insts l.at (drop l.at l.nets)
