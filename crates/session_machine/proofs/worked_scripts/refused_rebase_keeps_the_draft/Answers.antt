use Rattle.session_machine.proofs.Worked.{rebase_refused}
use Rattle.session_machine.proofs.worked_scripts.refused_rebase_keeps_the_draft.Goals as goal

pub returns : goal.returns
returns c = rebase_refused
