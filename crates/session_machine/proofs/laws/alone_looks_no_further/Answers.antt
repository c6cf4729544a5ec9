use Rattle.session_machine.proofs.Calls.{no_further}
use Rattle.session_machine.proofs.laws.alone_looks_no_further.Goals as goal

pub returns : goal.returns
returns g c = λ machine. no_further machine
