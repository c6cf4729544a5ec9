use Rattle.session_machine.proofs.Worked.{queries_pinned}
use Rattle.session_machine.proofs.worked_scripts.queries_are_of_the_pin.Goals as goal

pub returns : goal.returns
returns c = queries_pinned
