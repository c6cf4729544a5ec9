use Rattle.rule_system.proofs.Arrivals.{bounds_arrive}
use Rattle.rule_system.proofs.laws.attained_bounds_are_arrivals.Goals as goal

pub returns : goal.returns
returns c = bounds_arrive
