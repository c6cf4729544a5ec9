use Rattle.rule_system.proofs.Arrivals.{certified_period}
use Rattle.rule_system.proofs.laws.attained_feasible_ratios_are_periods.Goals as goal

pub returns : goal.returns
returns c = certified_period
