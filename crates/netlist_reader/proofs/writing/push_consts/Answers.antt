use Rattle.std.proofs.Common.{arith}
use Rattle.netlist_reader.specs.Canonical as spec
use Rattle.cyc_text.proofs.WrittenLemmas.{line_written, all_written}
use Rattle.netlist_reader.proofs.writing.push_consts.Goals as goal

pub loop-at-preserved : goal.loop-at-preserved
loop-at-preserved c = line_written spec.const_line c.args.net.now.consts c.loop-at.at _ _ _ _ c.const_name-name.ensures c.in_ok-push_const.ensures c.loop-at.invariant

pub returns : goal.returns
returns c = all_written spec.const_line c.args.net.now.consts c.loop-at.at _ _ (omega arith) c.loop-at.invariant
