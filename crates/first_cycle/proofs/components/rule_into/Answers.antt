use Rattle.first_cycle.proofs.Lists.{rule_into}
use Rattle.first_cycle.proofs.components.rule_into.Goals as goal

pub returns-clause-inside : goal.returns-clause-inside
returns-clause-inside c =
    rw c.into_event-numbers.ensures (rule_into _ _ _ (rw c.into_event-numbers.ensures at c.if-place-numbers.false)).inside
