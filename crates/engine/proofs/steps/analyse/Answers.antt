use Rattle.engine.proofs.Accepting.{analysis_passes, analysis_stops}
use Rattle.engine.proofs.steps.analyse.Goals as goal

pub returns-in-Ok-clause-ok : goal.returns-in-Ok-clause-ok
returns-in-Ok-clause-ok g c = analysis_passes c.in-Ok.ensures.found

pub returns-in-Err-clause-err : goal.returns-in-Err-clause-err
returns-in-Err-clause-err g c =
    analysis_stops c.args.library.now c.args.netlist.now c.in-Err.fault c.refused.result c.refused.ensures c.in-Err.ensures.refused
