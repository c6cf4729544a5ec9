use Rattle.std.proofs.Common.{◌≡◌, ◌++◌, drop}
use Rattle.report_writer.specs.Report as spec
use Rattle.report_writer.proofs.reports.push_steps.Given as goal

abbrev pub invariant-numbers : goal.invariant-numbers
invariant-numbers l = l.text.items ++ spec.step_lines l.net.nets l.rules (drop l.number-index l.cycle) ≡ l.fn.text.items ++ spec.step_lines l.net.nets l.rules l.cycle
