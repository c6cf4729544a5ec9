use Rattle.std.proofs.Common.{sym, ap, ◌∙◌, subst}
use Rattle.version_store.specs.Halls.{head_of, rows_of, Chain, HasRows}
use Rattle.version_store.proofs.Items.{rows_are, head_is, right_is}
use Rattle.version_store.proofs.hall.Hall.head.Goals as goal

pub returns-clause-head : goal.returns-clause-head
returns-clause-head g c = c.len.ensures ∙ (sym (head_is c.self.invariant.2) ∙ ap head_of c.self.view_is)

pub returns-clause-chain : goal.returns-clause-chain
returns-clause-chain g c = let k = c.self.invariant.2 in subst (λ h. Chain g.R.Follows.follows h.base (rows_of h.items)) c.self.view_is (subst (Chain g.R.Follows.follows _) (sym (rows_are k)) k.chain)

pub returns-clause-rows : goal.returns-clause-rows
returns-clause-rows g c = subst (λ h. HasRows 0 h.items) c.self.view_is (right_is c.self.invariant.2)
