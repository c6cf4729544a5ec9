use Rattle.std.proofs.Common.{◌<◌, ◌∙◌, length, sym, ap, rules, arith, filter, not, None, option_map}
use Rattle.netlist_model.specs.Keyed.{told_of}
use Rattle.netlist_model.specs.Circuit.{is_between}
use Rattle.netlist_model.specs.declared.pairs.Place.{Place}
use Rattle.netlist_model.proofs.BlockLemmas.{lists, flat, place_in, taken_index, taken_flat, taken_length, none_taken}
use Rattle.netlist_model.proofs.CountLemmas.{looked_up, told_remove}
use Rattle.netlist_model.proofs.TickLemmas.{ends_taken}
use Rattle.netlist_model.proofs.UseLemmas.{tells_same}
use Rattle.netlist_model.proofs.ticks.Ticks.remove.Goals as goal

pub returns-in_default : goal.returns-in_default
returns-in_default c =
    none_taken c.self.inside.blocks.items _ c.args.source c.args.target c.self.invariant.1 (ap (option_map (λ (p : Place). p.block)) (sym c.remove.ensures.value ∙ c.in_default.is))
    ∙ ap (filter (λ t. not (is_between c.args.source c.args.target t))) c.self.view_is

pub index_mut-requires : goal.index_mut-requires
index_mut-requires c =
    let here = ap (option_map (λ (p : Place). p.block)) (sym c.remove.ensures.value ∙ c.in-Some.is) in
    let low : c.in-Some.place.block < length c.self.inside.blocks.items = place_in c.self.inside.blocks.items c.in-Some.place.block (c.self.invariant.1.within c.in-Some.place.block c.args.source c.args.target here) in
    search rules

pub overflow_sub-self : goal.overflow_sub-self
overflow_sub-self c =
    let here = ap (option_map (λ (p : Place). p.block)) (sym c.remove.ensures.value ∙ c.in-Some.is) in
    let low : c.in-Some.place.block < length c.self.inside.blocks.items = place_in c.self.inside.blocks.items c.in-Some.place.block (c.self.invariant.1.within c.in-Some.place.block c.args.source c.args.target here) in
    let n = taken_length c.self.inside.blocks.items c.in-Some.place.block c.index_mut.result.now c.take_from-gone.new.block low c.index_mut.ensures.value in
    omega (arith, c.take_from-gone.ensures.gone, c.self.invariant.0)

pub invariant_of-self-2 : goal.invariant_of-self-2
invariant_of-self-2 c =
    let here = ap (option_map (λ (p : Place). p.block)) (sym c.remove.ensures.value ∙ c.in-Some.is) in
    let low : c.in-Some.place.block < length c.self.inside.blocks.items = place_in c.self.inside.blocks.items c.in-Some.place.block (c.self.invariant.1.within c.in-Some.place.block c.args.source c.args.target here) in
    let n = taken_length c.self.inside.blocks.items c.in-Some.place.block c.index_mut.result.now c.take_from-gone.new.block low c.index_mut.ensures.value in
    let left = taken_flat c.self.inside.blocks.items c.in-Some.place.block c.index_mut.result.now c.take_from-gone.new.block _ c.args.source c.args.target c.self.invariant.1 here c.index_mut.ensures.value c.take_from-gone.ensures.kept in (
      omega (arith, c.take_from-gone.ensures.gone, c.self.invariant.0),
      taken_index c.self.inside.blocks.items c.in-Some.place.block c.index_mut.result.now c.take_from-gone.new.block _ _ c.args.source c.args.target c.self.invariant.1 here c.index_mut.ensures.value c.take_from-gone.ensures.kept
          (λ u w. looked_up (λ (p : Place). p.block) _ None (told_of c.self.inside.pairs u w) _ (c.remove.ensures.updates u w)),
      rw left (told_remove (flat (lists c.self.inside.blocks.items)) c.args.source c.args.target (λ s t. option_map (λ (p : Place). p.count) (told_of c.self.inside.pairs s t)) _ c.self.invariant.2
          (λ u w. looked_up (λ (p : Place). p.count) _ None (told_of c.self.inside.pairs u w) _ (c.remove.ensures.updates u w))),
      rw left (c.lower-2.ensures _ (c.lower.ensures _ (tells_same _ _ _ (λ k. ends_taken k c.args.source c.args.target c.take_from-gone.result (flat (lists c.self.inside.blocks.items)) (omega (arith, n, c.take_from-gone.ensures.gone, ap length left))) c.self.invariant.3))),
    )

pub returns : goal.returns
returns c =
    let here = ap (option_map (λ (p : Place). p.block)) (sym c.remove.ensures.value ∙ c.in-Some.is) in
    taken_flat c.self.inside.blocks.items c.in-Some.place.block c.index_mut.result.now c.take_from-gone.new.block _ c.args.source c.args.target c.self.invariant.1 here c.index_mut.ensures.value c.take_from-gone.ensures.kept
    ∙ ap (filter (λ t. not (is_between c.args.source c.args.target t))) c.self.view_is
