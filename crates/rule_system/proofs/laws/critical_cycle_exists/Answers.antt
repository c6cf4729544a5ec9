use Rattle.rule_system.proofs.ArrivalsExist.{critical_cycle_exists}
use Rattle.rule_system.proofs.laws.critical_cycle_exists.Goals as goal

pub returns : goal.returns
returns c = critical_cycle_exists
