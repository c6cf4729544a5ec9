use Rattle.std.proofs.Common.{◌≡◌, take}
use Rattle.netlist_model.proofs.instances.copies.Given as goal

abbrev pub invariant-loop-instance : goal.invariant-loop-instance
invariant-loop-instance l = l.copies.items ≡ take l.instance-index l.items
