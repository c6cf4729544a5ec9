use Rattle.engine.proofs.Along.{wants_end}
use Rattle.engine.proofs.commands.apply.text_after.Goals as goal

pub returns-in_err-write-in-Ok : goal.returns-in_err-write-in-Ok
returns-in_err-write-in-Ok c = λ seen. wants_end seen seen _ c.from_residual.result c.from_residual.ensures.1
