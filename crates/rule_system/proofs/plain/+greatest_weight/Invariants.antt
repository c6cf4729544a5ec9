use Rattle.rule_system.specs.Plain.{IsWithin}
use Rattle.rule_system.proofs.GreatestWeight.{IsGreatestOf}
use Rattle.rule_system.proofs.plain.+greatest_weight.Given as goal

abbrev pub decreases-greatest_weight : goal.decreases-greatest_weight
decreases-greatest_weight l = l.left

abbrev pub invariant-heads : goal.invariant-heads
invariant-heads l = record {
  greatest : IsGreatestOf l.top l.bottom l.system.rules l.left l.from l.to l.rule-index l.best;
  within : IsWithin l.left l.best;
}
