use Rattle.std.proofs.Common.{arith}
use Rattle.liveness_check.proofs.Ranks.{all_reached}
use Rattle.liveness_check.proofs.shown.all_come_lower.Goals as goal

pub returns : goal.returns
returns c = λ _.
    all_reached c.args.system.now.events c.args.root c.args.system.now.rules c.args.tree.now.ranks.items c.rules-rules.ensures.ends
    (λ event inside. rw (← c.rules-rules.ensures.rules) (c.events.invariant event (omega (arith, inside, c.events-test.false, c.events-event-end.ensures.count))))
