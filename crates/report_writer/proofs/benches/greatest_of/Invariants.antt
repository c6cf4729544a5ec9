use Rattle.std.proofs.Common.{◌≡◌, drop, fold}
use Rattle.std.specs.Int.{int_max}
use Rattle.report_writer.specs.BenchText as spec
use Rattle.report_writer.proofs.benches.greatest_of.Given as goal

abbrev pub invariant-rest : goal.invariant-rest
invariant-rest l = spec.greatest_of l.numbers ≡ fold int_max l.greatest (drop l.number-index l.rest)
