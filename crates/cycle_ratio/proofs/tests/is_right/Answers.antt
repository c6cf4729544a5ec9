use Rattle.cycle_ratio.proofs.tests.is_right.Goals as goal

pub is_period-requires-clause-lowest : goal.is_period-requires-clause-lowest
is_period-requires-clause-lowest c = rw (c.top-top.ensures.top, c.bottom-bottom.ensures.bottom) c.top-top.ensures.lowest.lowest
