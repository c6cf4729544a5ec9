use Rattle.rule_system.proofs.FirstExists.{first_exists}
use Rattle.rule_system.proofs.laws.kept_cycles_have_a_first.Goals as goal

pub returns : goal.returns
returns c = first_exists
