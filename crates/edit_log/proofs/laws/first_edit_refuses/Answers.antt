use Rattle.edit_log.proofs.InTurn.{first_refused}
use Rattle.edit_log.proofs.laws.first_edit_refuses.Goals as goal

pub returns : goal.returns
returns c = first_refused
