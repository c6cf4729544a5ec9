use Rattle.session_machine.proofs.Worked.{turns_taken}
use Rattle.session_machine.proofs.worked_scripts.sessions_take_turns.Goals as goal

pub returns : goal.returns
returns c = turns_taken
