use Rattle.rule_system.proofs.PeriodExists.{period_exists}
use Rattle.rule_system.proofs.laws.live_systems_have_a_period.Goals as goal

pub returns : goal.returns
returns c = period_exists
