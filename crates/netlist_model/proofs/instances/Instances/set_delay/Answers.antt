use Rattle.std.proofs.Common.{◌≡◌, ◌<◌, List, length, subst, sym, refl, ap, ◌∙◌, get_or}
use Rattle.std.proofs.lemmas.Option.{get_or_from_slice_get}
use Rattle.netlist_model.specs.declared.parts.Instance.{Instance}
use Rattle.netlist_model.proofs.Places.{stands}
use Rattle.netlist_model.proofs.PinLemmas.{uses_kept}
use Rattle.netlist_model.proofs.UseLemmas.{pins_same}
use Rattle.netlist_model.proofs.Tables.{named_set, driven_set}
use Rattle.netlist_model.proofs.instances.Instances.set_delay.Goals as goal

pub invariant_of-self : goal.invariant_of-self
invariant_of-self c = (
  named_set (λ (i : Instance). i.name) c.self.inside.items.items c.args.at _ c.index_mut-instance.result.now _ c.self.invariant.0 (ap (λ (i : Instance). i.name) c.index_mut-instance.ensures.value),
  driven_set c.self.inside.items.items c.args.at _ c.index_mut-instance.result.now _ c.self.invariant.1 (ap (λ (i : Instance). i.pins) c.index_mut-instance.ensures.value),
  pins_same _ _ _ (λ r. sym (uses_kept c.self.inside.items.items c.args.at _ c.index_mut-instance.result.now r (subst (λ (xs : List Instance). c.args.at < length xs) (sym c.self.view_is) c.requires.within) (ap (λ (i : Instance). i.pins) c.index_mut-instance.ensures.value))) c.self.invariant.2,
)

pub returns : goal.returns
returns c =
    let (i, e) = stands c.args.self.now c.args.at c.requires.within in
    let same : c.index_mut-instance.result.now ≡ i =
    c.index_mut-instance.ensures.value ∙ ap (λ xs. get_or xs c.args.at c.index_mut-instance.result.now) c.self.view_is
    ∙ get_or_from_slice_get c.args.self.now c.args.at i c.index_mut-instance.result.now e in
    rw (c.set.ensures, same, c.self.view_is, e) refl
