use Rattle.rule_system.proofs.Cuts.{long_walk}
use Rattle.rule_system.proofs.laws.long_walks_have_a_closed_part.Goals as goal

pub returns : goal.returns
returns c = long_walk
