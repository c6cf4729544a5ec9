use Rattle.std.proofs.lemmas.Option.{IfSome_then}
use Rattle.liveness_check.proofs.Returns.{unreached_event, all_reached}
use Rattle.liveness_check.proofs.liveness.least_unreached.Goals as goal

pub returns-clause-some : goal.returns-clause-some
returns-clause-some c =
    let levels = rw (c.deref.ensures.value, c.in_ok-keep.ensures, c.rules.ensures.rules) at c.in_ok-levels.ensures in
    let lost = rw (c.deref-2.ensures.value, c.events.ensures.count) at c.first_lost.ensures.some in
    IfSome_then c.first_lost.result lost (λ event l. unreached_event _ _ _ _ event levels l)

pub returns-clause-none : goal.returns-clause-none
returns-clause-none c =
    let levels = rw (c.deref.ensures.value, c.in_ok-keep.ensures, c.rules.ensures.rules) at c.in_ok-levels.ensures in
    all_reached c.first_lost.result _ _ _ _ levels (rw (c.deref-2.ensures.value, c.events.ensures.count) at c.first_lost.ensures.none)
