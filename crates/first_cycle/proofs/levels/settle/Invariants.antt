use Rattle.std.proofs.Common.{sum}
use Rattle.first_cycle.specs.Levels.{AreFound}
use Rattle.first_cycle.specs.Ways.{rules_along}
use Rattle.first_cycle.proofs.levels.settle.Given as goal

abbrev pub invariant-passes : goal.invariant-passes
invariant-passes l = AreFound l.system.events (rules_along l.way l.system.rules) l.keep l.end l.levels

abbrev pub decreases-passes : goal.decreases-passes
decreases-passes l = sum l.levels
