use Rattle.std.proofs.Common.{◌≡◌, ◌++◌, map, decimal, drop}
use Rattle.report_writer.specs.FaultLines.{spaced}
use Rattle.report_writer.proofs.serves.push_numbers.Given as goal

abbrev pub invariant-numbers : goal.invariant-numbers
invariant-numbers l = l.text.items ++ spaced (map decimal (drop l.number-index l.numbers)) ≡ l.fn.text.items ++ spaced (map decimal l.numbers)
