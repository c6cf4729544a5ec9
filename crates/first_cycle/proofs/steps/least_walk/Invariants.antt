use Rattle.first_cycle.specs.Levels.{level_of}
use Rattle.first_cycle.proofs.Least.{IsFront}
use Rattle.first_cycle.proofs.steps.least_walk.Given as goal

abbrev pub invariant-steps : goal.invariant-steps
invariant-steps l = IsFront l.system.events l.system.rules l.keep l.end l.levels l.from l.at l.walk.items

abbrev pub decreases-steps : goal.decreases-steps
decreases-steps l = level_of l.levels l.at
