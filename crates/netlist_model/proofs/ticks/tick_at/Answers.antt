use Rattle.std.proofs.Common.{◌≡◌, ◌<◌, ◌≤◌, length, rules}
use Rattle.netlist_model.proofs.BlockLemmas.{found_in, goes_on}
use Rattle.netlist_model.proofs.ticks.tick_at.Goals as goal

pub returns-then-left-len : goal.returns-then-left-len
returns-then-left-len c =
    let low : c.loop-block.left < length c.block-item.result.items = search rules in
    found_in c.args.blocks.now c.args.at c.loop-block.block-index c.loop-block.left c.block-item.result c.index.result.now c.loop-block.invariant c.loop-block-test.true c.block-item.is low c.index.ensures

pub loop-block-preserved : goal.loop-block-preserved
loop-block-preserved c =
    let len : c.len-left.result ≡ length c.block-item.result.items = search rules in
    let high : length c.block-item.result.items ≤ c.loop-block.left = search rules in
    rw len (goes_on c.args.blocks.now c.args.at c.loop-block.block-index c.loop-block.left c.block-item.result c.loop-block.invariant c.loop-block-test.true c.block-item.is high)
