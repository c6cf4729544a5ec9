use Rattle.std.proofs.Common.{rules, ◌≡◌, get_or, pos, to_z, of_z, w64}
use Rattle.report_writer.proofs.Lines.{fork_written}
use Rattle.report_writer.proofs.reports.push_forks.Goals as goal

pub loop-at-preserved : goal.loop-at-preserved
loop-at-preserved c =
    let slack = get_or c.args.slacks.now c.loop-at.at (pos 0) in
    let fits : to_z w64 (of_z w64 slack) ≡ slack = search rules in
    fork_written c.args.bottom c.args.net.now.forks c.args.slacks.now c.loop-at.at c.fork.result.now _ _ _ c.fork.ensures c.loop-at-test.true
    (rw (c.bytes.ensures, fits) at c.in_ok-push_fork.ensures) c.loop-at.invariant
