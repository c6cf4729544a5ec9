use Rattle.event_expand.specs.Systems.{system_fork}
use Rattle.event_expand.proofs.ForkLemmas.{mapped}
use Rattle.event_expand.proofs.forks.forks_of.Goals as goal

pub loop-at-preserved : goal.loop-at-preserved
loop-at-preserved c = mapped system_fork c.args.net.now.forks c.loop-at.at c.fork.result.now c.system_fork.result _ _ _ c.fork.ensures c.system_fork.ensures c.in_ok-push.ensures.items c.loop-at.invariant
