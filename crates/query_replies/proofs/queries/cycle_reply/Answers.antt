use Rattle.std.proofs.Common.{◌≡◌, sym, subst}
use Rattle.rule_system.specs.Bounds.{AreSmallSums, EventRules}
use Rattle.rule_system.specs.FirstCycle.{IsFirstCycle}
use Rattle.rule_system.specs.Weights.{is_tight}
use Rattle.query_replies.proofs.queries.cycle_reply.Goals as goal

pub told_cycle-requires-clause-small : goal.told_cycle-requires-clause-small
told_cycle-requires-clause-small c =
    let row = c.row.inside in
    let a = c.row.invariant.analysis.right in
    let period = row.analysis.period in
    let first = subst (λ (s : EventRules). IsFirstCycle s.rules (is_tight period.top period.bottom s.rules a.cycle.times) row.analysis.cycle) (sym c.row.invariant.system) a.cycle.first in
    let small : AreSmallSums row.system.rules row.analysis.cycle =
    c.first_cycles_have_small_sums.ensures row.system.events row.system.rules (is_tight period.top period.bottom row.system.rules a.cycle.times) c.rules.ensures.system row.analysis.cycle first in
    rw (c.rules.ensures.rules, c.list.ensures.numbers) small
