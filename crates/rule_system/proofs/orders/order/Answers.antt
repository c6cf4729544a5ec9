use Rattle.std.proofs.Common.{arith}
use Rattle.rule_system.proofs.Places.{whole}
use Rattle.rule_system.proofs.Sums.{ends_below}
use Rattle.rule_system.proofs.orders.order.Goals as goal

pub returns-clause-some : goal.returns-clause-some
returns-clause-some c =
    whole _ _ _ _ c.events.invariant.0 (ends_below _ _ c.events-events.ensures.system) (λ event l. c.events.invariant.2 event (omega (arith, l, c.events-test.false, c.events-events.ensures.count)))
