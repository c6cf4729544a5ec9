use Rattle.std.proofs.Common.{◌≡◌, true, false, arith}
use Rattle.first_cycle.specs.Numbers.{StaysOnNumber}
use Rattle.first_cycle.proofs.Lists.{rule_out, none_out}
use Rattle.first_cycle.proofs.numbers.stays_on_number.Goals as goal

pub bounds-rules-number : goal.bounds-rules-number
bounds-rules-number c =
    rw (c.out_of_event-number-items.ensures, c.rules-rules.ensures.rules)
    (rule_out _ _ _ (rw c.out_of_event-number-items.ensures at c.rules-test.true)).inside

pub bounds-keep-number : goal.bounds-keep-number
bounds-keep-number c =
    rw (c.out_of_event-number-items.ensures, c.requires.keep)
    (rule_out _ _ _ (rw c.out_of_event-number-items.ensures at c.rules-test.true)).inside

pub returns-then-numbers-target-clause-some : goal.returns-then-numbers-target-clause-some
returns-then-numbers-target-clause-some c e =
    let e = c.out_of_event-number-items.ensures in
    let out = rule_out _ _ _ (rw e at c.rules-test.true) in (
      _,
      record {
        inside = out.inside;
        from = out.from;
        kept = rw e at c.if-keep-number.true;
        same = rw (e, c.rules-rules.ensures.rules) at c.if-numbers-target.true;
      },
    )

pub returns : goal.returns
returns c = record {
  some = λ e. absurd (let f : false ≡ true = e in cc);
  none = λ e n s.
      let end = rw c.out_of_event-number-items.ensures at c.rules-test.false in
      none_out _ _ (StaysOnNumber c.args.system.now.rules c.args.keep.now c.args.numbers.now c.args.event) (λ k h. c.rules.invariant k (omega arith)) n s.inside s.from s;
}
