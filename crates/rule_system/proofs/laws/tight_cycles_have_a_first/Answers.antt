use Rattle.rule_system.proofs.ArrivalsExist.{critical_exists}
use Rattle.rule_system.proofs.laws.tight_cycles_have_a_first.Goals as goal

pub returns : goal.returns
returns c = critical_exists
