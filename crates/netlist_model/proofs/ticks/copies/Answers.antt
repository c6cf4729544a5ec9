use Rattle.std.proofs.Common.{◌≡◌, ◌++◌, ◌∷◌, [], ap, sym, ◌∙◌}
use Rattle.std.proofs.lemmas.List.{map-append}
use Rattle.netlist_model.proofs.BlockLemmas.{Block, lists, stands_at}
use Rattle.netlist_model.proofs.KeyedLemmas.{take_next}
use Rattle.netlist_model.proofs.ticks.copies.Goals as goal

pub loop-block-preserved : goal.loop-block-preserved
loop-block-preserved c =
    let items = λ (b : Block). b.items in
    let x = (c.block-item.result).items in
    let copied : (c.in_ok-from_slice.field-0).items ≡ x = c.in_ok-from_slice.ensures.items ∙ c.deref.ensures.value in
    ap lists c.in_ok-push.ensures.items ∙ map-append items c.loop-block.copies.items (c.in_ok-from_slice.field-0 ∷ []) ∙ ap (λ y. lists c.loop-block.copies.items ++ y ∷ []) copied
    ∙ ap (λ ls. ls ++ x ∷ []) c.loop-block.invariant
    ∙ sym (take_next (lists c.args.blocks.now) c.loop-block.block-index x (stands_at c.args.blocks.now c.loop-block.block-index c.block-item.result c.loop-block-test.true c.block-item.is))
