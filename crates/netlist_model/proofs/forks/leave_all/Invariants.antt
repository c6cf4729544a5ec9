use Rattle.std.proofs.Common.{◌≡◌, ◌++◌, map, take, drop}
use Rattle.netlist_model.specs.Deletions.{fork_after}
use Rattle.netlist_model.proofs.forks.leave_all.Given as goal

abbrev pub invariant-loop-fork : goal.invariant-loop-fork
invariant-loop-fork l = l.forks ≡ map (fork_after l.gone) (take l.fork-index l.fn.forks) ++ drop l.fork-index l.fn.forks
