use Rattle.std.proofs.Common.{◌≡◌, ◌<◌, ℕ, length, arith}
use Rattle.first_cycle.specs.Levels.{LeadsNearer, level_of}
use Rattle.first_cycle.proofs.Least.{front_more, front_all, some_nearer, some_of}
use Rattle.first_cycle.proofs.steps.least_walk.Goals as goal

pub unwrap-number-requires : goal.unwrap-number-requires
unwrap-number-requires c =
    let some = some_nearer _ _ _ _ _ _ c.requires.levels c.steps.invariant.is_event c.steps.invariant.reached c.steps-test.true in
    let none = c.next_rule.ensures.none in
    some_of ((number : ℕ) → number < length c.args.system.now.rules → LeadsNearer c.args.system.now.rules c.args.keep.now c.args.levels.now c.steps.at number → ⊥) _ none (λ k. k some.0 some.1 some.2)

pub steps-preserved : goal.steps-preserved
steps-preserved c =
    let some = rw c.unwrap-number.ensures at c.next_rule.ensures.some in
    rw (c.in_ok-push.ensures.items, c.rules-rules.ensures.rules)
    (front_more _ _ _ _ _ _ _ _ _ c.requires.levels (c.rules-rules.ensures.ends _ some.inside).1 some c.steps.invariant)

pub returns : goal.returns
returns c =
    let zero : level_of c.args.levels.now c.steps.at ≡ 0 = omega arith in
    front_all _ _ _ _ _ _ _ _ c.requires.levels zero c.steps.invariant
