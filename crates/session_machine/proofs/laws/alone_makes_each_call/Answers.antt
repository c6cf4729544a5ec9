use Rattle.session_machine.proofs.Calls.{each_call_alone}
use Rattle.session_machine.proofs.laws.alone_makes_each_call.Goals as goal

pub returns : goal.returns
returns g c = λ machine. each_call_alone machine
