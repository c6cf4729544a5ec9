use Rattle.rule_system.proofs.ArrivalsExist.{same_arrivals}
use Rattle.rule_system.proofs.laws.arrivals_are_unique.Goals as goal

pub returns : goal.returns
returns c = same_arrivals
