use Rattle.rule_system.proofs.PeriodExists.{period_small}
use Rattle.rule_system.proofs.laws.periods_are_bounded.Goals as goal

pub returns : goal.returns
returns c = period_small
