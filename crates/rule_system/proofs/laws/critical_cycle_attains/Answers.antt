use Rattle.rule_system.proofs.ArrivalsExist.{critical_attains}
use Rattle.rule_system.proofs.laws.critical_cycle_attains.Goals as goal

pub returns : goal.returns
returns c = critical_attains
