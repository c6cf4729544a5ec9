use Rattle.rule_system.proofs.Dead.{live_from_none_dead}
use Rattle.rule_system.proofs.laws.systems_without_dead_cycles_are_live.Goals as goal

pub returns : goal.returns
returns c = live_from_none_dead
