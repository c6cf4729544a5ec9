use Rattle.std.proofs.Common.{◌≡◌, Option, sym, ap, ◌∙◌, subst}
use Rattle.netlist_model.specs.Circuit.{Circuit}
use Rattle.netlist_model.specs.Edits.{made}
use Rattle.netlist_model.specs.Sound.{Fits}
use Rattle.pinned_reader.specs.Rows.{RowState}
use Rattle.session_calls.specs.Ahead.{ahead_in, edit_left, edit_refusal}
use Rattle.session_calls.proofs.session.local.make_on.Goals as goal

pub make_over-requires : goal.make_over-requires
make_over-requires c =
    let library : c.deref.result.now ≡ c.args.row.now.library = c.deref.ensures ∙ ap (λ (r : RowState). r.library) c.row.view_is in
    let fits : Fits c.args.row.now.library c.in-Some.netlist.insts = subst (λ (e : Option Circuit). Fits c.args.row.now.library (ahead_in c.args.row.now e).insts) c.in-Some.is c.requires in
    subst (λ l. Fits l c.in-Some.netlist.insts) (sym library) fits

pub make_over-requires-in-None : goal.make_over-requires-in-None
make_over-requires-in-None c =
    let library : c.deref-in-None.result.now ≡ c.args.row.now.library = c.deref-in-None.ensures ∙ ap (λ (r : RowState). r.library) c.row.view_is in
    subst (λ l. Fits l c.in_ok-copy-in-None.copy.insts) (sym library) c.in_ok-copy-in-None.ensures.fits

pub returns-in-Some-clause-fits : goal.returns-in-Some-clause-fits
returns-in-Some-clause-fits c =
    let library : c.deref.result.now ≡ c.args.row.now.library = c.deref.ensures ∙ ap (λ (r : RowState). r.library) c.row.view_is in
    subst (λ l. Fits l c.make_over.new.netlist.insts) library c.make_over.ensures.fits

pub returns-in_ok-refusal-in-None-clause-refusal : goal.returns-in_ok-refusal-in-None-clause-refusal
returns-in_ok-refusal-in-None-clause-refusal c =
    let library : c.deref-in-None.result.now ≡ c.args.row.now.library = c.deref-in-None.ensures ∙ ap (λ (r : RowState). r.library) c.row.view_is in
    let ahead : c.in_ok-copy-in-None.copy ≡ ahead_in c.args.row.now c.args.edited.now = c.in_ok-copy-in-None.ensures.netlist ∙ ap (ahead_in c.args.row.now) (sym c.in-None.is) in
    c.in_ok-refusal-in-None.ensures.refusal ∙ (λ i. edit_refusal (made (library i) (ahead i) c.args.edit.now))

pub returns-in_ok-refusal-in-None-clause-left : goal.returns-in_ok-refusal-in-None-clause-left
returns-in_ok-refusal-in-None-clause-left c =
    let library : c.deref-in-None.result.now ≡ c.args.row.now.library = c.deref-in-None.ensures ∙ ap (λ (r : RowState). r.library) c.row.view_is in
    let ahead : c.in_ok-copy-in-None.copy ≡ ahead_in c.args.row.now c.args.edited.now = c.in_ok-copy-in-None.ensures.netlist ∙ ap (ahead_in c.args.row.now) (sym c.in-None.is) in
    c.in_ok-refusal-in-None.ensures.left ∙ (λ i. edit_left (ahead i) (made (library i) (ahead i) c.args.edit.now))

pub returns-in_ok-refusal-in-None-clause-fits : goal.returns-in_ok-refusal-in-None-clause-fits
returns-in_ok-refusal-in-None-clause-fits c =
    let library : c.deref-in-None.result.now ≡ c.args.row.now.library = c.deref-in-None.ensures ∙ ap (λ (r : RowState). r.library) c.row.view_is in
    subst (λ l. Fits l c.make_over-in-None.new.netlist.insts) library c.make_over-in-None.ensures.fits
