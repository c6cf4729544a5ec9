use Rattle.rule_system.proofs.ArrivalsExist.{tight_walk}
use Rattle.rule_system.proofs.laws.tight_walks_reach_all_events.Goals as goal

pub returns : goal.returns
returns c = tight_walk
