use Rattle.std.proofs.Common.{sym, ap, ◌∙◌, subst}
use Rattle.std.specs.Arc.{arc_value}
use Rattle.session_calls.specs.Ahead.{IsAhead}
use Rattle.session_calls.specs.States.{SessionState}
use Rattle.session_calls.proofs.Drafts.{ahead_here}
use Rattle.session_calls.proofs.session.Session.pinned.Goals as goal

pub invariant_of-self : goal.invariant_of-self
invariant_of-self c = subst (IsAhead c.self.inside.draft.items) (sym c.held_of.ensures) (record {
  made = ahead_here (arc_value c.args.pin.row) c.self.inside.draft.items (ap (λ (s : SessionState). s.draft) c.self.view_is ∙ c.requires);
  fits = rw (← c.deref.ensures) c.right.ensures.fits;
})
