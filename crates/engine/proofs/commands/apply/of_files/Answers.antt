use Rattle.engine.specs.Commands.{apply_netlist, apply_edits, edits_made}
use Rattle.engine.proofs.Along.{later_refl, stays, goes_on, ends_with, quits}
use Rattle.engine.proofs.commands.apply.of_files.Goals as goal

pub returns-in_err-library-clause-may : goal.returns-in_err-library-clause-may
returns-in_err-library-clause-may g c =
    quits (apply_netlist c.args.netlist_name.now c.args.edits_name.now) c.from_residual.result stays
    c.in_err-library.ensures.later c.in_err-library.ensures.err c.from_residual.ensures.1

pub returns-in_err-netlist-clause-may : goal.returns-in_err-netlist-clause-may
returns-in_err-netlist-clause-may g c =
    quits (apply_edits c.args.edits_name.now c.in_ok-library.library) c.from_residual-in_err-netlist.result
    (c.in_ok-library.ensures.ok.to (apply_netlist c.args.netlist_name.now c.args.edits_name.now))
    c.in_err-netlist.ensures.later c.in_err-netlist.ensures.err c.from_residual-in_err-netlist.ensures.1

pub returns-in_err-edits-clause-may : goal.returns-in_err-edits-clause-may
returns-in_err-edits-clause-may g c =
    let library = c.in_ok-library.ensures.ok.to (apply_netlist c.args.netlist_name.now c.args.edits_name.now) in
    let netlist = goes_on (apply_edits c.args.edits_name.now c.in_ok-library.library) library c.in_ok-netlist.ensures.later c.in_ok-netlist.ensures.ok in
    quits (edits_made c.in_ok-library.library c.in_ok-netlist.netlist) c.from_residual-in_err-edits.result netlist
    c.in_err-edits.ensures.later c.in_err-edits.ensures.err c.from_residual-in_err-edits.ensures.1

pub returns-clause-may : goal.returns-clause-may
returns-clause-may g c =
    let library = c.in_ok-library.ensures.ok.to (apply_netlist c.args.netlist_name.now c.args.edits_name.now) in
    let netlist = goes_on (apply_edits c.args.edits_name.now c.in_ok-library.library) library c.in_ok-netlist.ensures.later c.in_ok-netlist.ensures.ok in
    let edits = goes_on (edits_made c.in_ok-library.library c.in_ok-netlist.netlist) netlist c.in_ok-edits.ensures.later c.in_ok-edits.ensures.ok in
    ends_with _ edits (later_refl _)
    (rw c.list.ensures at (c.text_after.ensures (g.F.Shelf.seen c.open_edits.new.shelf)))
