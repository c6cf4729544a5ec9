use Rattle.std.proofs.Common.{ℕ, ◌<◌, ◌≤ℤ◌, ◌+ℤ◌}
use Rattle.rule_system.specs.Rules.{rule_at, source_of, target_of}
use Rattle.rule_system.specs.Weights.{rule_weight, time_of}
use Rattle.potentials.proofs.checks.are_loose.Given as goal

abbrev pub invariant-rules : goal.invariant-rules
invariant-rules l = (n : ℕ) → n < l.rule-index → (time_of l.times (source_of l.rule-items n) +ℤ rule_weight l.top l.bottom (rule_at l.rule-items n)) ≤ℤ time_of l.times (target_of l.rule-items n)
