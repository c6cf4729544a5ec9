use Rattle.rule_system.proofs.Dead.{no_offset}
use Rattle.rule_system.proofs.laws.dead_cycles_have_no_offset.Goals as goal

pub returns : goal.returns
returns c = no_offset
