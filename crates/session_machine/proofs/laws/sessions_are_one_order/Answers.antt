use Rattle.session_machine.proofs.Refusals.{sessions_are_one_order}
use Rattle.session_machine.proofs.laws.sessions_are_one_order.Goals as goal

pub returns : goal.returns
returns c = sessions_are_one_order
