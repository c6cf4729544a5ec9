use Rattle.session_machine.proofs.Worked.{stale_last}
use Rattle.session_machine.proofs.worked_scripts.stale_is_told_last.Goals as goal

pub returns : goal.returns
returns c = stale_last
