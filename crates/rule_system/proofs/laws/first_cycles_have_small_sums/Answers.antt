use Rattle.rule_system.proofs.FirstExists.{first_sums}
use Rattle.rule_system.proofs.laws.first_cycles_have_small_sums.Goals as goal

pub returns : goal.returns
returns c = first_sums
