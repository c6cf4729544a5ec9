use Rattle.session_machine.proofs.Calls.{order_followed}
use Rattle.session_machine.proofs.laws.order_is_followed.Goals as goal

pub returns : goal.returns
returns g c = λ machine. order_followed machine
