use Rattle.std.proofs.Common.{◌≡◌, ◌++◌, map, drop}
use Rattle.event_expand.specs.Systems.{system_fork, system_forks}
use Rattle.event_expand.proofs.forks.forks_of.Given as goal

abbrev pub invariant-loop-at : goal.invariant-loop-at
invariant-loop-at l = l.forks.items ++ map system_fork (drop l.at l.net.forks) ≡ system_forks l.net
