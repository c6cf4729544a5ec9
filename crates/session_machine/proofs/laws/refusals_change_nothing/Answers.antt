use Rattle.session_machine.proofs.Refusals.{refusals_change_nothing}
use Rattle.session_machine.proofs.laws.refusals_change_nothing.Goals as goal

pub returns : goal.returns
returns c = refusals_change_nothing
