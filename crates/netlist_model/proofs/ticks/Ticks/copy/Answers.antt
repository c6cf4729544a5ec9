use Rattle.std.proofs.Common.{◌≡◌, ap, option_map, subst, sym, ◌∙◌}
use Rattle.netlist_model.specs.declared.pairs.Place.{Place}
use Rattle.netlist_model.proofs.BlockLemmas.{flat, index_same, lists}
use Rattle.netlist_model.proofs.CountLemmas.{told_same}
use Rattle.netlist_model.specs.Uses.{Tells, ends_of}
use Rattle.netlist_model.proofs.ticks.Ticks.copy.Goals as goal

pub invariant_of-result : goal.invariant_of-result
invariant_of-result c =
    let same : lists c.in_ok-copies.field-0.items ≡ lists c.self.inside.blocks.items = c.in_ok-copies.ensures ∙ ap lists c.deref.ensures.value in
    rw same (
      c.self.invariant.0,
      index_same _ _ _ c.self.invariant.1 (λ s t. ap (option_map (λ (p : Place). p.block)) (c.in_ok-copy.ensures s t)),
      told_same _ _ _ _ c.self.invariant.2 (λ i. flat (lists c.self.inside.blocks.items)) (λ s t. ap (option_map (λ (p : Place). p.count)) (c.in_ok-copy.ensures s t)),
      subst (λ o. Tells o (ends_of (flat (lists c.self.inside.blocks.items)))) (sym c.in_ok-copy-2.ensures) c.self.invariant.3,
    )
