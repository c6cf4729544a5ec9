use Rattle.std.proofs.Common.{◌≡◌, ◌+◌, ◌<◌, ◌≤◌, ◌||◌, drop, get_or, length, sym, ap, ◌∙◌, arith}
use Rattle.std.specs.List.{list_any}
use Rattle.std.proofs.lemmas.List.{drop_all, length-map}
use Rattle.std.proofs.lemmas.List.Folds.{list_any-append}
use Rattle.std.proofs.lemmas.Option.{get_or_from_slice_get}
use Rattle.netlist_model.specs.Deletions.{is_ticked}
use Rattle.netlist_model.proofs.BlockLemmas.{Block, flat, flat_drop, lists, stands_at}
use Rattle.netlist_model.proofs.ticks.any_ticked.Goals as goal

pub returns-then-has_ticked : goal.returns-then-has_ticked
returns-then-has_ticked c =
    let p = is_ticked c.args.net in
    let xs = c.args.blocks.now in
    let i = c.loop-block.block-index in
    let b = c.block-item.result in
    let low : i < length (lists xs) = omega (arith, c.loop-block-test.true, length-map xs (λ (x : Block). x.items)) in
    let read : b.items ≡ get_or (lists xs) i b.items = sym (get_or_from_slice_get (lists xs) i b.items b.items (stands_at xs i b c.loop-block-test.true c.block-item.is)) in
    let parts : list_any p (flat (lists xs)) ≡ (list_any p b.items || list_any p (flat (drop (i + 1) (lists xs)))) =
    c.loop-block.invariant ∙ ap (list_any p) (flat_drop (lists xs) i b.items low read) ∙ list_any-append p b.items (flat (drop (i + 1) (lists xs))) in
    let here : c.has_ticked.result ≡ list_any p b.items = c.has_ticked.ensures ∙ ap (list_any p) c.deref.ensures.value in
    sym (parts ∙ ap (λ t. t || list_any p (flat (drop (i + 1) (lists xs)))) (sym here ∙ c.if-has_ticked.true))

pub loop-block-preserved : goal.loop-block-preserved
loop-block-preserved c =
    let p = is_ticked c.args.net in
    let xs = c.args.blocks.now in
    let i = c.loop-block.block-index in
    let b = c.block-item.result in
    let low : i < length (lists xs) = omega (arith, c.loop-block-test.true, length-map xs (λ (x : Block). x.items)) in
    let read : b.items ≡ get_or (lists xs) i b.items = sym (get_or_from_slice_get (lists xs) i b.items b.items (stands_at xs i b c.loop-block-test.true c.block-item.is)) in
    let parts : list_any p (flat (lists xs)) ≡ (list_any p b.items || list_any p (flat (drop (i + 1) (lists xs)))) =
    c.loop-block.invariant ∙ ap (list_any p) (flat_drop (lists xs) i b.items low read) ∙ list_any-append p b.items (flat (drop (i + 1) (lists xs))) in
    let here : c.has_ticked.result ≡ list_any p b.items = c.has_ticked.ensures ∙ ap (list_any p) c.deref.ensures.value in
    parts ∙ ap (λ t. t || list_any p (flat (drop (i + 1) (lists xs)))) (sym here ∙ c.if-has_ticked.false)

pub returns : goal.returns
returns c =
    let xs = c.args.blocks.now in
    let high : length (lists xs) ≤ c.loop-block.block-index = omega (arith, c.loop-block-test.false, length-map xs (λ (x : Block). x.items)) in
    sym (c.loop-block.invariant ∙ ap (λ bs. list_any (is_ticked c.args.net) (flat bs)) (drop_all c.loop-block.block-index (lists xs) high))
