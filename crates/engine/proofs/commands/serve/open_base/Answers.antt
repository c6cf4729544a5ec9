use Rattle.query_replies.specs.Served.{base_of}
use Rattle.engine.specs.Files.{base_analysed, base_opened, netlist_based}
use Rattle.engine.specs.Steps.{Stops}
use Rattle.engine.proofs.Along.{later_refl, seen_then, err_then, err_exit, gives_up}
use Rattle.engine.proofs.commands.serve.open_base.Goals as goal

pub returns-in_err-library-clause-err : goal.returns-in_err-library-clause-err
returns-in_err-library-clause-err g c =
    err_exit (Stops (g.F.Shelf.seen c.args.shelf.now) (g.F.Shelf.seen c.open_library.new.shelf) (base_opened c.args.library_name.now c.args.netlist_name.now))
    c.from_residual.result c.from_residual.ensures.1
    (record { at = λ next. c.in_err-library.ensures.err.at (λ cells. netlist_based c.args.netlist_name.now cells next) })

pub returns-in_err-netlist-clause-err : goal.returns-in_err-netlist-clause-err
returns-in_err-netlist-clause-err g c =
    err_exit (Stops (g.F.Shelf.seen c.args.shelf.now) (g.F.Shelf.seen c.open_netlist.new.shelf) (base_opened c.args.library_name.now c.args.netlist_name.now))
    c.from_residual-in_err-netlist.result c.from_residual-in_err-netlist.ensures.1
    (record {
      at = λ next. gives_up (λ d. base_analysed c.in_ok-library.library d next)
          (c.in_ok-library.ensures.ok.to (λ cells. netlist_based c.args.netlist_name.now cells next)) c.in_err-netlist.ensures.later c.in_err-netlist.ensures.err;
    })

pub returns-clause-ok : goal.returns-clause-ok
returns-clause-ok g c =
    seen_then (λ row. base_of row.library row.netlist) (netlist_based c.args.netlist_name.now) c.base_row.result c.in_ok-library.ensures.ok c.in_ok-netlist.ensures.later
    (seen_then (λ row. base_of row.library row.netlist) (base_analysed c.in_ok-library.library) c.base_row.result c.in_ok-netlist.ensures.ok (later_refl _)
    (c.base_row.ensures.ok (g.F.Shelf.seen c.open_netlist.new.shelf)))

pub returns-clause-err : goal.returns-clause-err
returns-clause-err g c =
    err_then (netlist_based c.args.netlist_name.now) c.base_row.result c.in_ok-library.ensures.ok c.in_ok-netlist.ensures.later
    (err_then (base_analysed c.in_ok-library.library) c.base_row.result c.in_ok-netlist.ensures.ok (later_refl _)
    (c.base_row.ensures.err (g.F.Shelf.seen c.open_netlist.new.shelf)))
