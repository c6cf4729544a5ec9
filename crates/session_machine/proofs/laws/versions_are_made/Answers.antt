use Rattle.session_machine.proofs.Sound.{versions_are_made}
use Rattle.session_machine.proofs.laws.versions_are_made.Goals as goal

pub returns : goal.returns
returns c = versions_are_made
