use Rattle.session_machine.proofs.Law.{all_alone}
use Rattle.session_machine.proofs.laws.alone_is_the_machine.Goals as goal

pub returns : goal.returns
returns g c = λ machine. all_alone machine
