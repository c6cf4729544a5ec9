use Rattle.rule_system.proofs.ArrivalsExist.{same_critical}
use Rattle.rule_system.proofs.laws.critical_cycle_is_unique.Goals as goal

pub returns : goal.returns
returns c = same_critical
