use Rattle.first_cycle.proofs.Lists.{all_out, all_into}
use Rattle.first_cycle.proofs.levels.rules_at.Goals as goal

pub returns-in-To : goal.returns-in-To
returns-in-To c = rw c.into_event.ensures (all_into _ _)

pub returns-in-From : goal.returns-in-From
returns-in-From c = rw c.out_of_event.ensures (all_out _ _)
