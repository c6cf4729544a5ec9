use Rattle.std.proofs.Common.{Ok, ap, inr, refl}
use Rattle.engine.specs.Commands.{report_written}
use Rattle.engine.proofs.Along.{later_refl, stays, quits}
use Rattle.engine.proofs.commands.analyze.report_of.Goals as goal

pub returns-in_err-found : goal.returns-in_err-found
returns-in_err-found g c =
    λ seen. quits (report_written c.args.library.now c.args.netlist.now) c.from_residual.result stays (later_refl seen) (c.in_err-found.ensures.err seen)
    c.from_residual.ensures.1

pub returns : goal.returns
returns g c =
    λ seen. inr (((c.in_ok-found.ensures.ok seen).to (report_written c.args.library.now c.args.netlist.now)).go seen (later_refl seen)
    (Ok c.plain.result) (ap Ok (rw (c.plain.ensures, c.in_ok-text.ensures, c.in_ok-found.ensures.system) refl)))
