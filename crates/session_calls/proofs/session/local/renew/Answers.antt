use Rattle.std.proofs.Common.{refl}
use Rattle.session_calls.proofs.Drafts.{renewed_some}
use Rattle.session_calls.proofs.session.local.renew.Goals as goal

pub returns-in-Some : goal.returns-in-Some
returns-in-Some c = renewed_some c.args.held.now c.in-Some.held _ c.in-Some.is refl refl (rw (← c.deref.ensures) c.right.ensures.fits)
