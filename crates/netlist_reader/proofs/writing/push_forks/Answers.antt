use Rattle.std.proofs.Common.{arith}
use Rattle.netlist_reader.specs.Canonical as spec
use Rattle.cyc_text.proofs.WrittenLemmas.{line_written, all_written}
use Rattle.netlist_reader.proofs.writing.push_forks.Goals as goal

pub loop-at-preserved : goal.loop-at-preserved
loop-at-preserved c = line_written (spec.fork_line c.args.net.now.nets) c.args.net.now.forks c.loop-at.at _ _ _ _ c.fork-fork.ensures c.in_ok-push_fork.ensures c.loop-at.invariant

pub returns : goal.returns
returns c = all_written (spec.fork_line c.args.net.now.nets) c.args.net.now.forks c.loop-at.at _ _ (omega arith) c.loop-at.invariant
