use Rattle.std.proofs.Common.{◌≡◌, Ok, sym, ◌∙◌, subst}
use Rattle.netlist_model.specs.Edits.{edited}
use Rattle.netlist_model.specs.Sound.{Fits}
use Rattle.pinned_reader.specs.Rows.{RowState}
use Rattle.session_calls.specs.Ahead.{IsAhead, ahead_in}
use Rattle.session_calls.proofs.session.Session.rebased.Goals as goal

pub invariant_of-self : goal.invariant_of-self
invariant_of-self c = subst (IsAhead c.self.inside.draft.items) (sym c.held_of.ensures) (record {
  made = subst (λ (r : RowState). edited r.library c.self.inside.draft.items r.netlist ≡ Ok (ahead_in r c.in-Ok.edited)) c.deref.ensures
      ((λ i. edited c.deref.result.now.library (sym c.as_slice.ensures.value i) c.deref.result.now.netlist) ∙ c.in-Ok.ensures.made);
  fits = subst (λ (r : RowState). Fits r.library (ahead_in r c.in-Ok.edited).insts) c.deref.ensures c.in-Ok.ensures.fits;
})
