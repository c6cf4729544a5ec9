use Rattle.session_machine.proofs.Sound.{netlists_stay}
use Rattle.session_machine.proofs.laws.netlists_stay.Goals as goal

pub returns : goal.returns
returns c = netlists_stay
