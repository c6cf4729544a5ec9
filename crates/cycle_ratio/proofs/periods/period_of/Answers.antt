use Rattle.std.proofs.Common.{arith}
use Rattle.cycle_ratio.proofs.Lowest.{no_gain_lowest}
use Rattle.cycle_ratio.proofs.periods.period_of.Goals as goal

pub returns-clause-greatest : goal.returns-clause-greatest
returns-clause-greatest c =
    no_gain_lowest _ _ _ _ _ (c.requires.live _ c.requires.cycle.is_cycle) (rw (c.sums_of-sums.ensures.delay, c.sums_of-sums.ensures.offset) at c.of.ensures.equal)

pub returns-clause-small : goal.returns-clause-small
returns-clause-small c =
    let delay = c.sums_of-sums.ensures.small.0 in
    let offset = c.sums_of-sums.ensures.small.1 in
    let top = c.of.ensures.top in
    let bottom = c.of.ensures.bottom in
    (omega arith, omega arith)
