use Rattle.engine.proofs.Along.{file_passes}
use Rattle.engine.proofs.steps.open.Goals as goal

pub returns-in-Ok-clause-ok : goal.returns-in-Ok-clause-ok
returns-in-Ok-clause-ok g c = file_passes c.in-Ok.ensures.later c.in-Ok.ensures.text
