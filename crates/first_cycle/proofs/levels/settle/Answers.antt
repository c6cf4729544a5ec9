use Rattle.std.proofs.Common.{◌≡◌, ◌≤◌, ◌∙◌, arith}
use Rattle.first_cycle.specs.Levels.{level_of}
use Rattle.first_cycle.proofs.Turned.{least_along}
use Rattle.first_cycle.proofs.levels.settle.Goals as goal

pub returns : goal.returns
returns c =
    let zero : level_of c.passes.levels c.args.end ≡ 0 = c.passes.invariant.zero in
    let sank : level_of c.lower.new.levels c.args.end ≤ level_of c.passes.levels c.args.end = c.lower.ensures.sank c.args.end in
    least_along _ _ _ _ _ _ c.lower.ensures.ends (c.lower.auto.levels ∙ c.passes.invariant.count) (omega arith) c.lower.ensures.reached (c.lower.ensures.settled c.passes-test.false)
