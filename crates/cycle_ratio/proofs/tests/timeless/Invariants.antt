use Rattle.std.proofs.Common.{◌≡◌, ◌<◌, ℕ, true, length}
use Rattle.rule_system.specs.Rules.{rule_at}
use Rattle.rule_system.specs.FirstCycle.{kept_by}
use Rattle.cycle_ratio.proofs.tests.timeless.Given as goal

abbrev pub invariant-rules : goal.invariant-rules
invariant-rules l = (length l.keep.items ≡ l.rule-index) × ((n : ℕ) → n < l.rule-index → (rule_at l.rules n).offset ≡ 0 → kept_by l.keep.items n ≡ true)
