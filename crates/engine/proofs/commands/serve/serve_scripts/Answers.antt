use Rattle.engine.specs.Courses.{Serves}
use Rattle.engine.proofs.Along.{wants_end}
use Rattle.engine.proofs.commands.serve.serve_scripts.Goals as goal

pub returns-in_err-base : goal.returns-in_err-base
returns-in_err-base g c =
    λ seen. wants_end seen seen (Serves c.args.base.library c.args.base.netlist c.args.scripts.now) c.from_residual.result c.from_residual.ensures.1
