use Rattle.session_machine.proofs.Refusals.{locals_publish_nothing}
use Rattle.session_machine.proofs.laws.local_calls_publish_nothing.Goals as goal

pub returns : goal.returns
returns c = locals_publish_nothing
