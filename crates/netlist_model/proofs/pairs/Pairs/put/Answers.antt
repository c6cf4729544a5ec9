use Rattle.std.proofs.Common.{◌≡◌, Some, cond, ap, sym, ◌∙◌}
use Rattle.netlist_model.specs.Blocks.{pair_eq}
use Rattle.netlist_model.specs.Keyed.{key_of, told_of}
use Rattle.netlist_model.proofs.PairLemmas.{numbered_changed, told_changed}
use Rattle.netlist_model.proofs.pairs.Pairs.put.Goals as goal

pub invariant_of-self-2 : goal.invariant_of-self-2
invariant_of-self-2 c =
    let s = c.args.source in
    let t = c.args.target in
    let numbers = c.self.inside.numbers.items in
    let key = c.in-Some.key in
    let is : key_of numbers s t ≡ Some (key.0, key.1) = ap (λ ns. key_of ns s t) (sym c.deref.ensures.value) ∙ sym c.in-Some.ensures in
    numbered_changed c.self.inside.places c.insert.new.self numbers c.self.inside.next s t key.0 key.1 (Some c.args.place) c.self.invariant is c.in_ok-insert.ensures.ok

pub returns-clause-ok : goal.returns-clause-ok
returns-clause-ok c =
    let s = c.args.source in
    let t = c.args.target in
    let numbers = c.self.inside.numbers.items in
    let key = c.in-Some.key in
    let is : key_of numbers s t ≡ Some (key.0, key.1) = ap (λ ns. key_of ns s t) (sym c.deref.ensures.value) ∙ sym c.in-Some.ensures in
    λ u v. told_changed c.self.inside.places c.insert.new.self numbers c.self.inside.next s t key.0 key.1 (Some c.args.place) c.self.invariant is c.in_ok-insert.ensures.ok u v
    ∙ ap (λ o. cond (pair_eq (s, t) (u, v)) (Some c.args.place) (told_of o u v)) c.self.view_is
