use Rattle.std.proofs.Common.{◌<◌, List, length, ap, sym, subst, ◌∙◌, arith}
use Rattle.std.specs.List.{remove}
use Rattle.std.proofs.lemmas.List.Sums.{sum_by-remove}
use Rattle.netlist_model.specs.Circuit.{driver_of}
use Rattle.netlist_model.specs.Uses.{pins_on, uses_of}
use Rattle.netlist_model.specs.declared.parts.Instance.{Instance}
use Rattle.netlist_model.proofs.Taken.{map-remove}
use Rattle.netlist_model.proofs.UseLemmas.{pins_same}
use Rattle.netlist_model.proofs.instances.Instances.remove.Goals as goal

pub invariant_of-self : goal.invariant_of-self
invariant_of-self c =
    let old = c.self.inside.items.items in
    let at = c.args.at in
    let low : at < length old = subst (λ (xs : List Instance). at < length xs) (sym c.self.view_is) c.requires.within in
    rw c.remove-gone.ensures.items (
      c.remove.ensures ∙ ap (λ names. remove names at) c.self.invariant.0 ∙ sym (map-remove (λ (i : Instance). i.name) old at),
      λ n. c.leave_driver.ensures n ∙ ap (λ xs. driver_of (remove xs at) n) c.deref.ensures.value,
      c.lower_all.ensures (uses_of (remove old at)) (pins_same _ (uses_of old) _ (λ r. omega (arith, sum_by-remove (λ (i : Instance). pins_on r i.pins) old at c.remove-gone.result low, ap (pins_on r) c.list.ensures, ap (λ (i : Instance). pins_on r i.pins) c.remove-gone.ensures.value)) c.self.invariant.2),
    )
