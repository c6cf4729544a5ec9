use Rattle.std.proofs.Common.{map}
use Rattle.std.specs.String.{string_bytes}
use Rattle.query_replies.specs.Served.{base_of}
use Rattle.engine.specs.Commands.{base_served, sessions_served}
use Rattle.engine.proofs.Along.{later_refl, stays, goes_on, ends_with, quits}
use Rattle.engine.proofs.commands.serve.of_files.Goals as goal

pub returns-in_err-base-clause-may : goal.returns-in_err-base-clause-may
returns-in_err-base-clause-may g c =
    quits (base_served (map string_bytes c.args.script_names.now)) c.from_residual.result stays c.in_err-base.ensures.later c.in_err-base.ensures.err
    c.from_residual.ensures.1

pub returns-in_err-scripts-clause-may : goal.returns-in_err-scripts-clause-may
returns-in_err-scripts-clause-may g c =
    quits (sessions_served (base_of c.in_ok-base.base.library c.in_ok-base.base.netlist)) c.from_residual-in_err-scripts.result
    (c.in_ok-base.ensures.ok.to (base_served (map string_bytes c.args.script_names.now))) c.in_err-scripts.ensures.later c.in_err-scripts.ensures.err
    c.from_residual-in_err-scripts.ensures.1

pub returns-clause-may : goal.returns-clause-may
returns-clause-may g c =
    ends_with _ (goes_on (sessions_served (base_of c.in_ok-base.base.library c.in_ok-base.base.netlist))
    (c.in_ok-base.ensures.ok.to (base_served (map string_bytes c.args.script_names.now))) c.in_ok-scripts.ensures.later c.in_ok-scripts.ensures.ok) (later_refl _)
    (rw c.deref.ensures.value at (c.serve_scripts.ensures (g.F.Shelf.seen c.open_scripts.new.shelf)))
