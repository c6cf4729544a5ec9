use Rattle.rule_system.proofs.Arrivals.{gain_weighs, attained_weighs}
use Rattle.rule_system.proofs.laws.weights_compare_ratios.Goals as goal

pub returns : goal.returns
returns c = record { gains = gain_weighs; attains = attained_weighs }
