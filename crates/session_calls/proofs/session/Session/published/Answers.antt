use Rattle.std.proofs.Common.{ap}
use Rattle.session_calls.specs.States.{SessionState}
use Rattle.session_calls.proofs.Drafts.{ahead_next}
use Rattle.session_calls.proofs.session.Session.published.Goals as goal

pub invariant_of-self : goal.invariant_of-self
invariant_of-self c = ahead_next c.args.self.now c.self.inside.held c.move_pin.new.held (record { number = c.args.number; row = c.args.row }) c.self.inside.draft.items c.clear.new.self.items c.requires
    (ap (λ (s : SessionState). s.pin) c.self.view_is) (ap (λ (s : SessionState). s.draft) c.self.view_is) c.self.invariant c.move_pin.ensures c.clear.ensures.items (rw (← c.deref.ensures) c.right.ensures.fits)
