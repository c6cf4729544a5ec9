use Rattle.cycle_ratio.proofs.Raises.{less_left}
use Rattle.cycle_ratio.proofs.raising.raise_cycle.Goals as goal

pub raises-smaller : goal.raises-smaller
raises-smaller c =
    less_left _ _ _ _ c.sums_of-sums.ensures.system c.requires.live c.raises.invariant
    (rw c.in-Some.is at c.in_ok-gain.ensures.cycle)
    (rw (c.in-Some.is, c.sums_of-sums.ensures.delay, c.sums_of-sums.ensures.offset, c.list.ensures.numbers) at c.in_ok-gain.ensures.gains)
