use Rattle.rule_system.proofs.ArrivalsExist.{root_at_zero}
use Rattle.rule_system.proofs.laws.root_arrives_at_zero.Goals as goal

pub returns : goal.returns
returns c = root_at_zero
