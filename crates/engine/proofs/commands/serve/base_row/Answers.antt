use Rattle.std.proofs.Common.{◌∙◌}
use Rattle.engine.proofs.Accepting.{base_passes, base_stops}
use Rattle.engine.proofs.commands.serve.base_row.Goals as goal

pub base-requires-after_bounds : goal.base-requires-after_bounds
base-requires-after_bounds g c κs within = rw c.in_ok-library.ensures.ok c.requires

pub returns-in-Ok-clause-ok : goal.returns-in-Ok-clause-ok
returns-in-Ok-clause-ok g c =
    base_passes (c.in-Ok.ensures.library ∙ c.in_ok-library.ensures.ok) c.in-Ok.ensures.netlist c.in-Ok.ensures.right

pub returns-clause-err : goal.returns-clause-err
returns-clause-err g c =
    base_stops c.args.library c.args.netlist.now c.in-Err.fault c.refused.result c.refused.ensures
    (rw c.in_ok-library.ensures.ok at c.in-Err.ensures.refused)
