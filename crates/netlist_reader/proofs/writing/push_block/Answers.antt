use Rattle.std.proofs.Common.{arith}
use Rattle.std.proofs.lemmas.Option.{slice_get-get_or}
use Rattle.netlist_reader.specs.Canonical as spec
use Rattle.cyc_text.proofs.WrittenLemmas.{line_written, all_written}
use Rattle.netlist_reader.proofs.writing.push_block.Goals as goal

pub loop-tick-preserved : goal.loop-tick-preserved
loop-tick-preserved c =
    line_written (spec.tick_line c.args.net.now.nets) c.args.ticks.now c.loop-tick.tick-index _ _ _ _
    (slice_get-get_or c.args.ticks.now c.loop-tick.tick-index _ c.loop-tick-test.true)
    c.in_ok-push_tick.ensures c.loop-tick.invariant

pub returns : goal.returns
returns c = all_written (spec.tick_line c.args.net.now.nets) c.args.ticks.now c.loop-tick.tick-index _ _ (omega arith) c.loop-tick.invariant
