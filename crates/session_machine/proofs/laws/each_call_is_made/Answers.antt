use Rattle.session_machine.proofs.Calls.{each_call}
use Rattle.session_machine.proofs.laws.each_call_is_made.Goals as goal

pub returns : goal.returns
returns g c = λ machine. each_call machine
