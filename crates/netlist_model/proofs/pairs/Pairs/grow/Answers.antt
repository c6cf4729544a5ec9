use Rattle.std.proofs.Common.{◌≡◌, ◌+◌, ap, ◌∙◌, rules}
use Rattle.netlist_model.specs.Keyed.{told_of}
use Rattle.netlist_model.proofs.PairLemmas.{numbered_grown, told_grown}
use Rattle.netlist_model.proofs.pairs.Pairs.grow.Goals as goal

pub invariant_of-self-2 : goal.invariant_of-self-2
invariant_of-self-2 c =
    let one : c.in-Some.next ≡ c.self.inside.next + 1 = search rules in
    rw c.in_ok-push.ensures.items (numbered_grown c.self.inside.places c.self.inside.numbers.items c.self.inside.next c.in-Some.next c.self.invariant one)

pub returns : goal.returns
returns c = λ u v. rw c.in_ok-push.ensures.items (told_grown c.self.inside.places c.self.inside.numbers.items c.self.inside.next u v c.self.invariant) ∙ ap (λ t. told_of t u v) c.self.view_is
