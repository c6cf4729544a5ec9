use Rattle.std.proofs.Common.{ap, subst}
use Rattle.netlist_model.specs.Sound.{Fits}
use Rattle.pinned_reader.specs.Rows.{RowState}
use Rattle.session_calls.proofs.Drafts.{if_ok}
use Rattle.session_calls.proofs.session.local.copy_of.Goals as goal

pub returns-clause-fits : goal.returns-clause-fits
returns-clause-fits c = if_ok c.copy.result c.row.inside.netlist (λ n. Fits c.args.row.now.library n.insts) c.copy.ensures
    (subst (λ l. Fits l c.row.inside.netlist.insts) (ap (λ (r : RowState). r.library) c.row.view_is) c.row.invariant.fits)
