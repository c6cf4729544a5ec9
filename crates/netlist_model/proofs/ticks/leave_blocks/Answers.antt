use Rattle.std.proofs.Common.{◌≡◌, ◌≤◌, ◌++◌, drop, length, get_or, map, ap, sym, ◌∙◌, arith}
use Rattle.std.proofs.lemmas.List.{append-nil, drop_all, get_or-map, length-map, map-set, take_all}
use Rattle.netlist_model.specs.Deletions.{tick_after}
use Rattle.netlist_model.proofs.BlockLemmas.{Block, lists}
use Rattle.netlist_model.proofs.Taken.{mapped_more}
use Rattle.netlist_model.proofs.ticks.leave_blocks.Goals as goal

pub loop-block-preserved : goal.loop-block-preserved
loop-block-preserved c =
    let f = map (tick_after c.args.gone) in
    let xs = c.args.blocks.now in
    let ys = c.loop-block.blocks in
    let i = c.loop-block.block-index in
    let items = λ (b : Block). b.items in
    let low = c.loop-block-test.true in
    let same = c.loop-block.auto.blocks in
    let read : get_or (lists ys) i (c.block-item.result).items ≡ (get_or ys i c.block-item.result).items = get_or-map items ys i c.block-item.result (c.block-item.result).items (omega (arith, low, same)) in
    map-set items ys i c.leave_block.new.block
    ∙ mapped_more f (lists xs) (lists ys) i (c.block-item.result).items c.leave_block.new.block.items (omega (arith, low, length-map xs items)) (omega (arith, same, length-map xs items, length-map ys items)) c.loop-block.invariant
    (c.leave_block.ensures ∙ ap f (sym read))

pub returns : goal.returns
returns c =
    let f = map (tick_after c.args.gone) in
    let xs = c.args.blocks.now in
    let i = c.loop-block.block-index in
    let high : length (lists xs) ≤ i = omega (arith, c.loop-block-test.false, length-map xs (λ (b : Block). b.items)) in
    c.loop-block.invariant ∙ ap (λ ys. map f ys ++ drop i (lists xs)) (take_all i (lists xs) high) ∙ ap (λ ys. map f (lists xs) ++ ys) (drop_all i (lists xs) high) ∙ append-nil (map f (lists xs))
