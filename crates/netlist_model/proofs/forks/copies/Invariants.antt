use Rattle.std.proofs.Common.{◌≡◌, take}
use Rattle.netlist_model.proofs.forks.copies.Given as goal

abbrev pub invariant-loop-fork : goal.invariant-loop-fork
invariant-loop-fork l = l.copies.items ≡ take l.fork-index l.forks
