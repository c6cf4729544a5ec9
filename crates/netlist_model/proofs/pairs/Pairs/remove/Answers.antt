use Rattle.std.proofs.Common.{◌≡◌, None, Some, cond, ap, sym, ◌∙◌}
use Rattle.netlist_model.specs.Blocks.{pair_eq}
use Rattle.netlist_model.specs.Keyed.{key_of, told_of}
use Rattle.netlist_model.proofs.PairLemmas.{numbered_changed, told_changed}
use Rattle.netlist_model.proofs.pairs.Pairs.remove.Goals as goal

pub invariant_of-self : goal.invariant_of-self
invariant_of-self c =
    let s = c.args.source in
    let t = c.args.target in
    let numbers = c.self.inside.numbers.items in
    let key = c.in-Some.key in
    let is : key_of numbers s t ≡ Some (key.0, key.1) = ap (λ ns. key_of ns s t) (sym c.deref.ensures.value) ∙ sym c.in-Some.ensures in
    numbered_changed c.self.inside.places c.remove.new.self numbers c.self.inside.next s t key.0 key.1 None c.self.invariant is c.remove.ensures.updates

pub returns-in-Some-clause-updates : goal.returns-in-Some-clause-updates
returns-in-Some-clause-updates c =
    let s = c.args.source in
    let t = c.args.target in
    let numbers = c.self.inside.numbers.items in
    let key = c.in-Some.key in
    let is : key_of numbers s t ≡ Some (key.0, key.1) = ap (λ ns. key_of ns s t) (sym c.deref.ensures.value) ∙ sym c.in-Some.ensures in
    λ u v. told_changed c.self.inside.places c.remove.new.self numbers c.self.inside.next s t key.0 key.1 None c.self.invariant is c.remove.ensures.updates u v
    ∙ ap (λ o. cond (pair_eq (s, t) (u, v)) None (told_of o u v)) c.self.view_is
