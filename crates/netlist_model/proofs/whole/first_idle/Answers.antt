use Rattle.std.proofs.Common.{◌≡◌, length, position, sym, ap, ◌∙◌, arith, rules}
use Rattle.netlist_model.specs.ArcRules.{is_unjoined}
use Rattle.netlist_model.proofs.FirstLemmas.{block_within, walk_ends, walk_goes_on}
use Rattle.netlist_model.proofs.whole.first_idle.Goals as goal

pub overflow_add-result : goal.overflow_add-result
overflow_add-result c =
    let low = block_within (is_unjoined c.args.library.now c.args.insts.now) c.args.blocks.now c.loop-block.block-index c.loop-block.before c.block-item.result c.loop-block.invariant c.loop-block-test.true c.block-item.is in
    let len : length c.deref.result.now ≡ length c.block-item.result.items = ap length c.deref.ensures.value in
    omega (arith, c.in-Some.ensures.within)

pub returns-in-Some-clause-place : goal.returns-in-Some-clause-place
returns-in-Some-clause-place c =
    let p = is_unjoined c.args.library.now c.args.insts.now in
    walk_ends p c.args.blocks.now c.loop-block.block-index c.loop-block.before c.in-Some.at c.block-item.result c.loop-block.invariant c.loop-block-test.true c.block-item.is
    (ap (position p) (sym c.deref.ensures.value) ∙ sym c.first_idle_in.ensures.place ∙ c.in-Some.is)

pub returns-in-Some-clause-within : goal.returns-in-Some-clause-within
returns-in-Some-clause-within c =
    let low = block_within (is_unjoined c.args.library.now c.args.insts.now) c.args.blocks.now c.loop-block.block-index c.loop-block.before c.block-item.result c.loop-block.invariant c.loop-block-test.true c.block-item.is in
    let len : length c.deref.result.now ≡ length c.block-item.result.items = ap length c.deref.ensures.value in
    omega (arith, c.in-Some.ensures.within)

pub overflow_add-before : goal.overflow_add-before
overflow_add-before c =
    let low = block_within (is_unjoined c.args.library.now c.args.insts.now) c.args.blocks.now c.loop-block.block-index c.loop-block.before c.block-item.result c.loop-block.invariant c.loop-block-test.true c.block-item.is in
    let len : c.len-before.result ≡ length c.block-item.result.items = search rules in
    omega (arith, c.requires.small)

pub loop-block-preserved : goal.loop-block-preserved
loop-block-preserved c =
    let p = is_unjoined c.args.library.now c.args.insts.now in
    let len : c.len-before.result ≡ length c.block-item.result.items = search rules in
    rw len (walk_goes_on p c.args.blocks.now c.loop-block.block-index c.loop-block.before c.block-item.result c.loop-block.invariant c.loop-block-test.true c.block-item.is
    (ap (position p) (sym c.deref.ensures.value) ∙ sym c.first_idle_in.ensures.place ∙ c.in-None.is))
