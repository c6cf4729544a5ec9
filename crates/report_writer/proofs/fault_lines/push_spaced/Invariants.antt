use Rattle.std.proofs.Common.{◌≡◌, ◌++◌, drop}
use Rattle.report_writer.specs.FaultLines as spec
use Rattle.report_writer.proofs.fault_lines.push_spaced.Given as goal

abbrev pub invariant-names : goal.invariant-names
invariant-names l = l.text.items ++ spec.spaced (drop l.name-index l.names) ≡ l.fn.text.items ++ spec.spaced l.names
