use Rattle.std.proofs.Common.{◌≡◌, ℕ, nat_eq, false, arith}
use Rattle.std.proofs.lemmas.Bool.Decides.{nat_tests}
use Rattle.rule_system.proofs.Ends.{one_end, from_first}
use Rattle.rule_system.proofs.measures.is_cycle.Goals as goal

apart : (a b : ℕ) → nat_eq a b ≡ false → a ≡ b → ⊥
apart a b other is = grind (arith, nat_tests)

pub returns-in-Some-end_of-clause-none : goal.returns-in-Some-end_of-clause-none
returns-in-Some-end_of-clause-none c = λ other cycle.
    let w = from_first c.args.rules.now c.args.walk.now c.in-Some.first.now c.in-Some-get.rule.now c.in-Some.ensures.item.1 (c.in-Some-get.ensures.lookup.3.1 _) cycle in
    apart c.in-Some-end_of.end c.in-Some-get.rule.now.source other
    (one_end c.args.rules.now c.in-Some-get.rule.now.source c.args.walk.now c.in-Some-end_of.end c.in-Some-get.rule.now.source c.in-Some-end_of.ensures.some w)

pub returns-in-None-clause-none : goal.returns-in-None-clause-none
returns-in-None-clause-none c = λ other cycle.
    c.in-None.ensures.none c.in-Some-get.rule.now.source
    (from_first c.args.rules.now c.args.walk.now c.in-Some.first.now c.in-Some-get.rule.now c.in-Some.ensures.item.1 (c.in-Some-get.ensures.lookup.3.1 _) cycle)
