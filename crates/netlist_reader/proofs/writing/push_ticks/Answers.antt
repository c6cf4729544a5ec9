use Rattle.std.proofs.Common.{◌++◌, ◌∙◌, ap, length, map, refl, arith, List, ℕ}
use Rattle.std.proofs.lemmas.Option.{slice_get_read}
use Rattle.netlist_model.specs.Sound.{IsTick}
use Rattle.cyc_text.specs.Written.{lines_text}
use Rattle.netlist_reader.specs.Canonical as spec
use Rattle.cyc_text.proofs.WrittenLemmas.{block_written, all_blocks_written}
use Rattle.netlist_reader.proofs.TickBlocks.{flat_lines, in_block, Block}
use Rattle.netlist_reader.proofs.writing.push_ticks.Goals as goal

pub push_block-requires : goal.push_block-requires
push_block-requires c =
    rw c.deref.ensures.value (in_block (IsTick (length c.args.net.now.nets)) c.tick_blocks-blocks.result.now c.loop-block.block-index c.block-item.result c.loop-block-test.true c.block-item.is
    (rw c.tick_blocks-blocks.ensures c.sound.ensures.ticks))

pub loop-block-preserved : goal.loop-block-preserved
loop-block-preserved c =
    block_written (λ (b : Block). map (spec.tick_line c.args.net.now.nets) b.items) c.tick_blocks-blocks.result.now c.loop-block.block-index c.block-item.result _ _ _
    (slice_get_read c.tick_blocks-blocks.result.now (length c.tick_blocks-blocks.result.now) c.loop-block.block-index c.block-item.result refl c.loop-block-test.true c.block-item.is)
    (rw c.deref.ensures.value at c.in_ok-push_block.ensures) c.loop-block.invariant

pub returns : goal.returns
returns c =
    all_blocks_written (λ (b : Block). map (spec.tick_line c.args.net.now.nets) b.items) c.tick_blocks-blocks.result.now c.loop-block.block-index _ _ (omega arith) c.loop-block.invariant
    ∙ ap (λ (ls : List (List (List ℕ))). c.args.text.now.items ++ lines_text ls) (flat_lines (spec.tick_line c.args.net.now.nets) c.tick_blocks-blocks.result.now ∙ ap (map (spec.tick_line c.args.net.now.nets)) c.tick_blocks-blocks.ensures)
