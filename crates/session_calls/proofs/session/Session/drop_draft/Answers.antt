use Rattle.session_calls.proofs.Drafts.{ahead_none}
use Rattle.session_calls.proofs.session.Session.drop_draft.Goals as goal

pub invariant_of-self : goal.invariant_of-self
invariant_of-self c = ahead_none c.self.inside.held c.renew.new.held c.clear.new.self.items c.renew.ensures c.clear.ensures.items
