use Rattle.cycle_ratio.proofs.Trees.{less_left}
use Rattle.cycle_ratio.proofs.gains.climb.Goals as goal

pub rounds-preserved : goal.rounds-preserved
rounds-preserved c = (c.round.ensures.tree, rw c.in_default.is at c.in_ok-cycle.ensures.small)

pub rounds-smaller : goal.rounds-smaller
rounds-smaller c = less_left _ _ c.rounds.numbers _ c.round.ensures.tree.count (rounds-preserved c).1 (c.round.ensures.rose c.rounds-test.true)
