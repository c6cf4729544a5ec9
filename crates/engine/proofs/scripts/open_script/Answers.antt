use Rattle.engine.specs.Files.{script_read, script_opened}
use Rattle.engine.specs.Steps.{Stops}
use Rattle.engine.proofs.Along.{later_refl, ok_then, err_then, err_exit}
use Rattle.engine.proofs.scripts.open_script.Goals as goal

pub returns-in_err-text-clause-err : goal.returns-in_err-text-clause-err
returns-in_err-text-clause-err g c =
    err_exit (Stops (g.F.Shelf.seen c.args.shelf.now) (g.F.Shelf.seen c.open.new.shelf) (script_opened c.args.number c.args.calls c.args.reports c.args.name.now))
    c.from_residual.result c.from_residual.ensures.1
    (record { at = λ next. c.in_err-text.ensures.err.at (λ bytes. script_read c.args.number c.args.calls c.args.reports bytes next) })

pub returns-clause-ok : goal.returns-clause-ok
returns-clause-ok g c =
    ok_then (script_read c.args.number c.args.calls c.args.reports) c.read_script.result c.in_ok-text.ensures.ok (later_refl _)
    (rw c.bytes.ensures at (c.read_script.ensures.ok (g.F.Shelf.seen c.open.new.shelf)))

pub returns-clause-err : goal.returns-clause-err
returns-clause-err g c =
    err_then (script_read c.args.number c.args.calls c.args.reports) c.read_script.result c.in_ok-text.ensures.ok (later_refl _)
    (rw c.bytes.ensures at (c.read_script.ensures.err (g.F.Shelf.seen c.open.new.shelf)))
