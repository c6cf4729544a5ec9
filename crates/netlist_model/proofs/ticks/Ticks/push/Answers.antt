use Rattle.std.proofs.Common.{◌≡◌, ◌<◌, ◌∙◌, ◌+◌, sym, ap, refl, subst, length, Some, option_map, is_some, set, false, arith, rules, ◌++◌, ◌∷◌, [], slice_get}
use Rattle.std.proofs.lemmas.List.{length_push}
use Rattle.std.proofs.lemmas.Option.{slice_get_read}
use Rattle.std.specs.Option.{IfSome}
use Rattle.std.specs.Vec.{vec_capacity, vec_len}
use Rattle.netlist_model.specs.Blocks.{PutLast}
use Rattle.netlist_model.specs.Circuit.{tick_of}
use Rattle.netlist_model.specs.Keyed.{told_of}
use Rattle.netlist_model.specs.declared.pairs.Place.{Place}
use Rattle.netlist_model.proofs.BlockLemmas.{Block, grown_flat, grown_index, index_same, put_flat, put_in, put_index, has_tick, none_of, lists, flat}
use Rattle.netlist_model.proofs.CountLemmas.{looked_up, told_push, told_same}
use Rattle.std.proofs.lemmas.List.Sums.{sum_by_push}
use Rattle.netlist_model.specs.Uses.{ends_of, ends_on}
use Rattle.netlist_model.proofs.UseLemmas.{tells_same}
use Rattle.netlist_model.proofs.Tables.{pushed_of}
use Rattle.netlist_model.proofs.ticks.Ticks.push.Goals as goal

pub invariant_of-self : goal.invariant_of-self
invariant_of-self c =
    let grown = c.in_err-block.ensures.grown in (
      c.self.invariant.0 ∙ ap length (sym (grown_flat _ _ grown)),
      grown_index _ _ _ grown c.self.invariant.1,
      told_same _ _ _ _ c.self.invariant.2 (grown_flat _ _ grown) (λ s t. refl),
      tells_same _ _ _ (λ n. ap (λ ts. ends_of ts n) (sym (grown_flat _ _ grown))) c.self.invariant.3,
    )

pub invariant_of-self-in_err-insert : goal.invariant_of-self-in_err-insert
invariant_of-self-in_err-insert c =
    let grown = c.in_ok-block.ensures.grown in (
      c.self.invariant.0 ∙ ap length (sym (grown_flat _ _ grown)),
      index_same _ _ _ (grown_index _ _ _ grown c.self.invariant.1) (λ s t. ap (option_map (λ (p : Place). p.block)) (c.in_err-insert.ensures.err s t)),
      told_same _ _ _ _ c.self.invariant.2 (grown_flat _ _ grown) (λ s t. ap (option_map (λ (p : Place). p.count)) (c.in_err-insert.ensures.err s t)),
      tells_same _ _ _ (λ n. ap (λ ts. ends_of ts n) (sym (grown_flat _ _ grown))) c.self.invariant.3,
    )

pub invariant_of-self-2 : goal.invariant_of-self-2
invariant_of-self-2 c =
    let mid = c.make_room.new.blocks.items in
    let k = c.in_ok-block.block in
    let tick = c.args.tick in
    let v = c.index_mut-last.result.now in
    let last : k + 1 ≡ length mid = c.in_ok-block.ensures.last in
    let at : slice_get mid k ≡ Some v = slice_get_read mid (length mid) k v refl (omega (arith, last)) c.index_mut-last.ensures.value in
    let room : vec_len v < vec_capacity v = subst (λ o. IfSome o (λ (b : Block). vec_len b < vec_capacity b)) at c.in_ok-block.ensures.room in
    let pushed : c.push.new.self.items ≡ v.items ++ tick ∷ [] = c.push.ensures.items ∙ pushed_of c.push.result _ _ (c.push.ensures.succeeds room) in
    let before = lists c.self.inside.blocks.items in
    let after = lists (set mid k c.push.new.self) in
    let put : PutLast before after k tick = put_in c.self.inside.blocks.items mid k v c.push.new.self tick c.in_ok-block.ensures.grown last c.index_mut-last.ensures.value pushed in
    let old = told_of c.self.inside.pairs in
    let place : Place = record { block = k; count = tick.count } in
    let flat_is = put_flat before after k tick put in
    let one_more : c.in-Some.count ≡ c.self.inside.count + 1 = search rules in
    let grows : length (flat after) ≡ length (flat before) + 1 = ap length flat_is ∙ length_push (flat before) tick in
    let fresh : is_some (tick_of (flat before) tick.source tick.target) ≡ false = ap (λ ts. is_some (tick_of ts tick.source tick.target)) c.self.view_is ∙ c.requires in
    let absent = has_tick before (λ s t. option_map (λ (p : Place). p.block) (old s t)) tick.source tick.target c.self.invariant.1 ∙ fresh in (
      omega (arith, c.self.invariant.0),
      put_index before after k tick (λ s t. option_map (λ (p : Place). p.block) (old s t)) _ put c.self.invariant.1 (none_of _ absent)
          (λ u w. looked_up (λ (p : Place). p.block) _ (Some place) (old u w) _ (c.in_ok-insert.ensures.ok u w)),
      rw flat_is (told_push (flat before) tick (λ s t. option_map (λ (p : Place). p.count) (old s t)) _ c.self.invariant.2 fresh
          (λ u w. looked_up (λ (p : Place). p.count) _ (Some place) (old u w) _ (c.in_ok-insert.ensures.ok u w))),
      rw flat_is (tells_same _ _ _ (λ n. omega (arith, sum_by_push (ends_on n) (flat before) tick)) (c.raise-2.ensures _ (c.raise.ensures (ends_of (flat before)) c.self.invariant.3))),
    )

pub returns-clause-ok : goal.returns-clause-ok
returns-clause-ok c =
    let mid = c.make_room.new.blocks.items in
    let k = c.in_ok-block.block in
    let tick = c.args.tick in
    let v = c.index_mut-last.result.now in
    let last : k + 1 ≡ length mid = c.in_ok-block.ensures.last in
    let at : slice_get mid k ≡ Some v = slice_get_read mid (length mid) k v refl (omega (arith, last)) c.index_mut-last.ensures.value in
    let room : vec_len v < vec_capacity v = subst (λ o. IfSome o (λ (b : Block). vec_len b < vec_capacity b)) at c.in_ok-block.ensures.room in
    let pushed : c.push.new.self.items ≡ v.items ++ tick ∷ [] = c.push.ensures.items ∙ pushed_of c.push.result _ _ (c.push.ensures.succeeds room) in
    let before = lists c.self.inside.blocks.items in
    let after = lists (set mid k c.push.new.self) in
    let put : PutLast before after k tick = put_in c.self.inside.blocks.items mid k v c.push.new.self tick c.in_ok-block.ensures.grown last c.index_mut-last.ensures.value pushed in
    put_flat before after k tick put ∙ ap (λ ts. ts ++ tick ∷ []) c.self.view_is
