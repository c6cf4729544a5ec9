use Rattle.std.proofs.Common.{refl, arith}
use Rattle.first_cycle.specs.Levels.{LeadsNearer}
use Rattle.first_cycle.proofs.Lists.{rule_out, none_out, first_out}
use Rattle.first_cycle.proofs.steps.next_rule.Goals as goal

pub leads_nearer-requires-clause-number : goal.leads_nearer-requires-clause-number
leads_nearer-requires-clause-number c =
    rw (c.out_of_event-number-items.ensures, c.rules-rules.ensures.rules)
    (rule_out _ _ _ (rw c.out_of_event-number-items.ensures at c.numbers-test.true)).inside

pub returns-then-leads_nearer-clause-some : goal.returns-then-leads_nearer-clause-some
returns-then-leads_nearer-clause-some c =
    let e = c.out_of_event-number-items.ensures in
    let low = rw e at c.numbers-test.true in
    let out = rule_out _ _ _ low in
    let near = rw (e, c.rules-rules.ensures.rules) at (c.if-leads_nearer.ensures.0 refl) in
    rw e (record {
      inside = out.inside;
      from = out.from;
      kept = near.1;
      nearer = near.2;
      first = λ n inside s. first_out _ _ _ (LeadsNearer c.args.system.now.rules c.args.keep.now c.args.levels.now c.args.at) low c.numbers.invariant n inside s.0 s;
    })

pub returns-clause-none : goal.returns-clause-none
returns-clause-none c n inside s =
    let end = rw c.out_of_event-number-items.ensures at c.numbers-test.false in
    none_out _ _ (LeadsNearer c.args.system.now.rules c.args.keep.now c.args.levels.now c.args.at) (λ k h. c.numbers.invariant k (omega arith)) n inside s.0 s
