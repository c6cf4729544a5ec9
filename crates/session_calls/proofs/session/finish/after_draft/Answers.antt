use Rattle.std.proofs.Common.{◌≡◌, ap, ◌∙◌, subst}
use Rattle.std.specs.Prelude.{IfOk}
use Rattle.netlist_model.specs.Sound.{Fits}
use Rattle.pinned_reader.specs.Rows.{RowState}
use Rattle.session_calls.proofs.session.finish.after_draft.Goals as goal

pub apply-requires : goal.apply-requires
apply-requires c = rw c.deref.ensures c.row.invariant.fits

pub returns-clause-fits : goal.returns-clause-fits
returns-clause-fits c =
    let library : c.deref.result.now ≡ c.args.row.now.library = c.deref.ensures ∙ ap (λ (r : RowState). r.library) c.row.view_is in
    subst (λ l. IfOk c.apply.result (λ n. Fits l n.insts)) library c.apply.ensures.fits
