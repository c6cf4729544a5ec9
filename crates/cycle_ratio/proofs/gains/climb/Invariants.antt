use Rattle.std.proofs.Common.{◌-◌, ◌*◌, sum}
use Rattle.cycle_ratio.specs.Trees.{IsTree, AreAtMost}
use Rattle.cycle_ratio.proofs.gains.climb.Given as goal

abbrev pub invariant-rounds : goal.invariant-rounds
invariant-rounds l = IsTree l.top l.bottom l.system.events l.system.rules l.numbers l.parents × AreAtMost 20000000000000000 l.numbers

abbrev pub decreases-rounds : goal.decreases-rounds
decreases-rounds l = l.system.events * 20000000000000000 - sum l.numbers
