use Rattle.std.proofs.Common.{◌++◌, ◌∷◌, [], ap, ◌∙◌}
use Rattle.session_calls.proofs.Drafts.{ahead_more}
use Rattle.session_calls.proofs.session.Session.make.Goals as goal

pub invariant_of-self-2 : goal.invariant_of-self-2
invariant_of-self-2 c = ahead_more c.edits_are_joined.ensures.made c.self.inside.held c.make_ahead.new.held c.self.inside.draft.items c.push_reserved.new.self.items c.args.edit.now c.in_ok-refusal.field-0 c.self.invariant c.in_ok-refusal.ensures.tried c.in_default.is
    (c.push_reserved.ensures.items ∙ ap (λ l. l ++ c.in_ok-copy.copy ∷ []) c.reserve.ensures.items ∙ ap (λ e. c.self.inside.draft.items ++ e ∷ []) c.in_ok-copy.ensures) c.make_ahead.ensures.fits
