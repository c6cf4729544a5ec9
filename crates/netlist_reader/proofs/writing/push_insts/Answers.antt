use Rattle.std.proofs.Common.{arith}
use Rattle.netlist_reader.specs.Canonical as spec
use Rattle.cyc_text.proofs.WrittenLemmas.{line_written, all_written}
use Rattle.netlist_reader.proofs.Texts.{inst_line_is, of_library, pins_stand}
use Rattle.netlist_reader.proofs.writing.push_insts.Goals as goal

pub cell_of-cell-requires : goal.cell_of-cell-requires
cell_of-cell-requires c = of_library c.args.library.now c.args.net.now.insts c.loop-at.at _ c.requires c.inst-inst.ensures

pub push_inst-requires-clause-each : goal.push_inst-requires-clause-each
push_inst-requires-clause-each c = pins_stand c.args.net.now c.loop-at.at _ c.sound.ensures c.inst-inst.ensures

pub loop-at-preserved : goal.loop-at-preserved
loop-at-preserved c =
    line_written (spec.inst_line c.args.library.now c.args.net.now) c.args.net.now.insts c.loop-at.at _ _ _ _ c.inst-inst.ensures
    (inst_line_is c.args.library.now c.args.net.now c.inst-inst.result.now c.cell_of-cell.result.now _ _ c.cell_of-cell.ensures.cell c.in_ok-push_inst.ensures) c.loop-at.invariant

pub returns : goal.returns
returns c = all_written (spec.inst_line c.args.library.now c.args.net.now) c.args.net.now.insts c.loop-at.at _ _ (omega arith) c.loop-at.invariant
