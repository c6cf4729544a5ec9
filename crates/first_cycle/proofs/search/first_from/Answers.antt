use Rattle.std.proofs.Common.{◌<◌, length, arith}
use Rattle.first_cycle.proofs.Opening.{none_from}
use Rattle.first_cycle.proofs.Unraised.{no_cycle_from}
use Rattle.first_cycle.proofs.search.first_from.Goals as goal

pub returns-then-through-events-clause-none : goal.returns-then-through-events-clause-none
returns-then-through-events-clause-none c =
    let best = rw (c.deref.ensures.value, c.rules-rules.ensures.rules) at c.opening_rule-number.ensures in
    let high = rw (c.through.ensures, c.events.ensures.count, c.deref-2.ensures.value, c.rules-rules.ensures.rules) at c.if-through-events.true in
    none_from _ _ _ _ _ _ c.rules-rules.ensures.ends c.in_ok-levels.ensures best high

pub returns-then-not-stays_on_number-clause-none : goal.returns-then-not-stays_on_number-clause-none
returns-then-not-stays_on_number-clause-none c =
    no_cycle_from _ _ _ _ c.requires.unraised (c.stays_on_number.ensures.none c.if-not-stays_on_number.true)

pub opening_rule-number-requires-clause-some : goal.opening_rule-number-requires-clause-some
opening_rule-number-requires-clause-some c =
    let stays = c.stays_on_number.ensures.some c.if-not-stays_on_number.false in
    let inside : stays.0 < length c.args.system.now.rules = stays.1.inside in
    rw c.rules-rules.ensures.rules (omega arith)
