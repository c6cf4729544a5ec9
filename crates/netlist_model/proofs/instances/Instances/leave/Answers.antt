use Rattle.std.proofs.Common.{◌≡◌, false, map, ap, refl, sym, ◌∙◌}
use Rattle.std.specs.List.{list_any}
use Rattle.netlist_model.specs.Circuit.{driver_of}
use Rattle.netlist_model.specs.Deletions.{inst_after, is_pinned}
use Rattle.netlist_model.specs.Keyed.{told_at}
use Rattle.netlist_model.specs.Uses.{moved_back, uses_of}
use Rattle.netlist_model.specs.declared.parts.Instance.{Instance}
use Rattle.netlist_model.specs.declared.parts.NetRef.{NetRef}
use Rattle.netlist_model.specs.declared.parts.NetRef.TheVariants.{Net}
use Rattle.netlist_model.proofs.DriverLemmas.{driver_after_const, driver_after_net, told_forgotten}
use Rattle.netlist_model.proofs.PinLemmas.{uses_after}
use Rattle.netlist_model.proofs.Taken.{map_kept}
use Rattle.netlist_model.proofs.UseLemmas.{pins_same}
use Rattle.netlist_model.proofs.instances.Instances.leave.Goals as goal

pub invariant_of-self : goal.invariant_of-self
invariant_of-self c =
    let old = c.self.inside.items.items in
    let told = c.self.inside.drivers.items in
    let net = c.in-Net.net in
    let free : list_any (is_pinned c.args.gone) old ≡ false = ap (list_any (is_pinned c.args.gone)) c.self.view_is ∙ c.requires in
    let free_net : list_any (is_pinned (Net net)) old ≡ false = ap (λ (r : NetRef). list_any (is_pinned r) old) (sym c.in-Net.is) ∙ free in
    rw c.move_up.ensures (
      c.self.invariant.0 ∙ sym (map_kept (λ (i : Instance). i.name) (inst_after c.args.gone) old (λ i. refl)),
      λ n. ap (λ ds. told_at ds n) c.forget.ensures ∙ told_forgotten told net n ∙ c.self.invariant.1 (moved_back net n)
          ∙ sym (ap (λ (r : NetRef). driver_of (map (inst_after r) old) n) c.in-Net.is ∙ driver_after_net old net n free_net),
      pins_same _ _ _ (λ r. sym (uses_after c.args.gone r old free)) (c.leave.ensures (uses_of old) c.self.invariant.2),
    )

pub invariant_of-self-in-Const : goal.invariant_of-self-in-Const
invariant_of-self-in-Const c =
    let old = c.self.inside.items.items in
    let free : list_any (is_pinned c.args.gone) old ≡ false = ap (list_any (is_pinned c.args.gone)) c.self.view_is ∙ c.requires in
    rw c.move_up.ensures (
      c.self.invariant.0 ∙ sym (map_kept (λ (i : Instance). i.name) (inst_after c.args.gone) old (λ i. refl)),
      λ n. c.self.invariant.1 n ∙ sym (ap (λ (r : NetRef). driver_of (map (inst_after r) old) n) c.in-Const.is ∙ driver_after_const old _ n),
      pins_same _ _ _ (λ r. sym (uses_after c.args.gone r old free)) (c.leave.ensures (uses_of old) c.self.invariant.2),
    )
