use Rattle.std.proofs.Common.{◌≡◌, ◌++◌, drop}
use Rattle.report_writer.specs.Report as spec
use Rattle.report_writer.proofs.reports.push_arrivals.Given as goal

abbrev pub invariant-loop-event : goal.invariant-loop-event
invariant-loop-event l =
    l.text.items ++ spec.arrival_lines l.net.nets l.bottom l.event (drop l.event l.arrivals)
    ≡ l.fn.text.items ++ spec.arrival_lines l.net.nets l.bottom 0 l.arrivals
