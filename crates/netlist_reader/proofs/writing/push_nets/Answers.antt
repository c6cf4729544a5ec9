use Rattle.std.proofs.Common.{arith}
use Rattle.netlist_reader.specs.Canonical as spec
use Rattle.cyc_text.proofs.WrittenLemmas.{line_written, all_written}
use Rattle.netlist_reader.proofs.writing.push_nets.Goals as goal

pub loop-at-preserved : goal.loop-at-preserved
loop-at-preserved c = line_written spec.net_line c.args.net.now.nets c.loop-at.at _ _ _ _ c.net_name-name.ensures c.in_ok-push_net.ensures c.loop-at.invariant

pub returns : goal.returns
returns c = all_written spec.net_line c.args.net.now.nets c.loop-at.at _ _ (omega arith) c.loop-at.invariant
