use Rattle.std.proofs.Common.{◌≡◌, length}
use Rattle.analysis.proofs.drawn_tests.tight_rules.Given as goal

abbrev pub invariant-rules : goal.invariant-rules
invariant-rules l = length l.keep.items ≡ l.rule-index
