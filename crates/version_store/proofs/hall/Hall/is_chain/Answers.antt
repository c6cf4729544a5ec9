use Rattle.std.proofs.Common.{sym, subst}
use Rattle.version_store.specs.Halls.{rows_of, Chain}
use Rattle.version_store.proofs.Items.{rows_are}
use Rattle.version_store.proofs.hall.Hall.is_chain.Goals as goal

pub returns : goal.returns
returns g c = let k = c.self.invariant.2 in subst (λ h. Chain g.R.Follows.follows h.base (rows_of h.items)) c.self.view_is (subst (Chain g.R.Follows.follows _) (sym (rows_are k)) k.chain)
