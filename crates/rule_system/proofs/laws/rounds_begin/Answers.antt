use Rattle.rule_system.proofs.Arrivals.{begin}
use Rattle.rule_system.proofs.laws.rounds_begin.Goals as goal

pub returns : goal.returns
returns c = begin
