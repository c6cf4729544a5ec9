use Rattle.std.proofs.Common.{◌≡◌, length, map, false, ap, sym, option_map, ◌∙◌}
use Rattle.std.specs.List.{list_any}
use Rattle.std.proofs.lemmas.List.{length-map}
use Rattle.netlist_model.specs.Deletions.{is_ticked, tick_after}
use Rattle.netlist_model.specs.Uses.{ends_of}
use Rattle.netlist_model.specs.declared.pairs.Place.{Place}
use Rattle.netlist_model.proofs.BlockLemmas.{flat, lists}
use Rattle.netlist_model.proofs.LeftTicks.{counts_left, flat_mapped, index_left}
use Rattle.netlist_model.proofs.TickLemmas.{ends_after}
use Rattle.netlist_model.proofs.UseLemmas.{tells_same}
use Rattle.netlist_model.proofs.ticks.Ticks.leave.Goals as goal

pub invariant_of-self : goal.invariant_of-self
invariant_of-self c =
    let f = tick_after c.args.gone in
    let old = c.self.inside.blocks.items in
    let free : list_any (is_ticked c.args.gone) (flat (lists old)) ≡ false = ap (list_any (is_ticked c.args.gone)) c.self.view_is ∙ c.requires in
    rw c.move_up.ensures (
      c.self.invariant.0 ∙ sym (ap length (flat_mapped f (lists old)) ∙ length-map (flat (lists old)) f),
      index_left (lists old) _ _ c.args.gone c.self.invariant.1 free (λ s t. ap (option_map (λ (p : Place). p.block)) (c.leave.ensures s t)),
      rw (flat_mapped f (lists old)) (counts_left (flat (lists old)) _ _ c.args.gone c.self.invariant.2 free (λ s t. ap (option_map (λ (p : Place). p.count)) (c.leave.ensures s t))),
      rw (flat_mapped f (lists old)) (tells_same _ _ _ (λ n. sym (ends_after c.args.gone n (flat (lists old)) free)) (c.leave-2.ensures (ends_of (flat (lists old))) c.self.invariant.3)),
    )

pub returns : goal.returns
returns c =
    let f = tick_after c.args.gone in
    rw c.move_up.ensures (flat_mapped f (lists c.self.inside.blocks.items) ∙ ap (map f) c.self.view_is)
