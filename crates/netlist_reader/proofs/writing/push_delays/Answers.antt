use Rattle.std.proofs.Common.{arith}
use Rattle.netlist_reader.specs.Canonical as spec
use Rattle.cyc_text.proofs.WrittenLemmas.{block_written, all_blocks_written}
use Rattle.netlist_reader.proofs.Texts.{delay_lines_is, of_library}
use Rattle.netlist_reader.proofs.writing.push_delays.Goals as goal

pub cell_of-cell-requires : goal.cell_of-cell-requires
cell_of-cell-requires c = of_library c.args.library.now c.args.net.now.insts c.loop-at.at _ c.requires c.inst-inst.ensures

pub loop-at-preserved : goal.loop-at-preserved
loop-at-preserved c =
    block_written (spec.delay_lines c.args.library.now) c.args.net.now.insts c.loop-at.at _ _ _ _ c.inst-inst.ensures
    (delay_lines_is c.args.library.now c.inst-inst.result.now c.cell_of-cell.result.now _ _ c.cell_of-cell.ensures.cell c.in_ok-push_owns.ensures) c.loop-at.invariant

pub returns : goal.returns
returns c = all_blocks_written (spec.delay_lines c.args.library.now) c.args.net.now.insts c.loop-at.at _ _ (omega arith) c.loop-at.invariant
