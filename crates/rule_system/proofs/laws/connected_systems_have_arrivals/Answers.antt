use Rattle.rule_system.proofs.ArrivalsExist.{arrivals_exist}
use Rattle.rule_system.proofs.laws.connected_systems_have_arrivals.Goals as goal

pub returns : goal.returns
returns c = arrivals_exist
