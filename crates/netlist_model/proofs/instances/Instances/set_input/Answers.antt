use Rattle.std.proofs.Common.{◌≡◌, ◌<◌, List, Some, length, refl, ap, sym, subst, ◌∙◌, get_or, set, slice_get, ◌+◌}
use Rattle.std.proofs.lemmas.Option.{get_or_from_slice_get, slice_get_read}
use Rattle.netlist_model.specs.Circuit.{last_of}
use Rattle.netlist_model.specs.declared.parts.Instance.{Instance}
use Rattle.netlist_model.proofs.DriverLemmas.{driver_kept, last_set}
use Rattle.netlist_model.proofs.Places.{stands}
use Rattle.netlist_model.specs.Uses.{one_on, uses_of}
use Rattle.netlist_model.proofs.PinLemmas.{uses_moved}
use Rattle.netlist_model.proofs.UseLemmas.{pins_same}
use Rattle.netlist_model.proofs.Tables.{named_set}
use Rattle.netlist_model.proofs.instances.Instances.set_input.Goals as goal

pub invariant_of-self : goal.invariant_of-self
invariant_of-self c =
    let old = c.self.inside.items.items in
    let now = c.index_mut-instance.result.now in
    let low : c.args.at < length old = subst (λ (xs : List Instance). c.args.at < length xs) (sym c.self.view_is) c.requires.within in
    let at : slice_get old c.args.at ≡ Some now = slice_get_read old (length old) c.args.at now refl low c.index_mut-instance.ensures.value in
    let here : slice_get c.args.self.now c.args.at ≡ Some now = ap (λ xs. slice_get xs c.args.at) (sym c.self.view_is) ∙ at in
    let new : Instance = record { name = now.name; cell = now.cell; pins = c.set.new.self; delays = now.delays } in
    let kept : last_of c.set.new.self ≡ last_of (get_or old c.args.at now).pins =
    ap last_of c.set.ensures ∙ last_set now.pins c.args.pin c.args.to (c.requires.input now here) ∙ ap (λ (i : Instance). last_of i.pins) c.index_mut-instance.ensures.value in (
      named_set (λ (i : Instance). i.name) old c.args.at _ now _ c.self.invariant.0 (ap (λ (i : Instance). i.name) c.index_mut-instance.ensures.value),
      λ n. c.self.invariant.1 n ∙ sym (driver_kept old c.args.at n now _ kept),
      c.lower.ensures (uses_of (set old c.args.at new)) (pins_same _ (λ r. uses_of old r + one_on r c.args.to) _ (λ r. uses_moved old c.args.at c.args.pin new now c.args.to c.pin_on-from.result r at c.pin_on-from.ensures c.set.ensures) (c.raise.ensures (uses_of old) c.self.invariant.2)),
    )

pub returns : goal.returns
returns c =
    let (i, e) = stands c.args.self.now c.args.at c.requires.within in
    let same : c.index_mut-instance.result.now ≡ i =
    c.index_mut-instance.ensures.value ∙ ap (λ xs. get_or xs c.args.at c.index_mut-instance.result.now) c.self.view_is
    ∙ get_or_from_slice_get c.args.self.now c.args.at i c.index_mut-instance.result.now e in
    rw (c.set.ensures, same, c.self.view_is, e) refl
