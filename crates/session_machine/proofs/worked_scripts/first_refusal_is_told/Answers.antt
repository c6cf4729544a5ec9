use Rattle.session_machine.proofs.Worked.{refused_in_order}
use Rattle.session_machine.proofs.worked_scripts.first_refusal_is_told.Goals as goal

pub returns : goal.returns
returns c = refused_in_order
