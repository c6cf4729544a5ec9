use Rattle.std.proofs.Common.{◌≡◌, ◌++◌, drop}
use Rattle.report_writer.specs.Report as spec
use Rattle.report_writer.proofs.reports.push_forks.Given as goal

abbrev pub invariant-loop-at : goal.invariant-loop-at
invariant-loop-at l =
    l.text.items ++ spec.fork_lines l.bottom (drop l.at l.net.forks) (drop l.at l.slacks)
    ≡ l.fn.text.items ++ spec.fork_lines l.bottom l.net.forks l.slacks
