use Rattle.rule_system.proofs.PeriodExists.{connected_cycle}
use Rattle.rule_system.proofs.laws.connected_systems_have_a_cycle.Goals as goal

pub returns : goal.returns
returns c = connected_cycle
