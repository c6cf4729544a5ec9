use Rattle.std.proofs.Common.{◌≡◌, drop, fold}
use Rattle.std.specs.Int.{int_min}
use Rattle.report_writer.specs.BenchText as spec
use Rattle.report_writer.proofs.benches.least_of.Given as goal

abbrev pub invariant-rest : goal.invariant-rest
invariant-rest l = spec.least_of l.numbers ≡ fold int_min l.least (drop l.number-index l.rest)
