use Rattle.rule_system.proofs.ArrivalsExist.{arrival_exists}
use Rattle.rule_system.proofs.laws.reached_events_have_arrivals.Goals as goal

pub returns : goal.returns
returns c = arrival_exists
