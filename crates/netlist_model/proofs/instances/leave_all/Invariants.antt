use Rattle.std.proofs.Common.{◌≡◌, ◌++◌, map, take, drop}
use Rattle.netlist_model.specs.Deletions.{inst_after}
use Rattle.netlist_model.proofs.instances.leave_all.Given as goal

abbrev pub invariant-loop-instance : goal.invariant-loop-instance
invariant-loop-instance l = l.items ≡ map (inst_after l.gone) (take l.instance-index l.fn.items) ++ drop l.instance-index l.fn.items
