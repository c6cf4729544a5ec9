use Rattle.rule_system.specs.FirstCycle.{kept_by}
use Rattle.rule_system.specs.Plain.{NoWalkBelow}
use Rattle.rule_system.proofs.plain.+first_walk.Given as goal

abbrev pub decreases-first_walk : goal.decreases-first_walk
decreases-first_walk l = l.count

abbrev pub invariant-heads : goal.invariant-heads
invariant-heads l = NoWalkBelow l.rules (kept_by l.keep) l.count l.from l.to l.number
