use Rattle.std.proofs.Common.{◌≡◌, ◌<◌, ℕ, length}
use Rattle.rule_system.specs.FirstCycle.{kept_by}
use Rattle.rule_system.specs.Weights.{is_tight}
use Rattle.analysis.proofs.critical.tight_flags.Given as goal

abbrev pub invariant-rules : goal.invariant-rules
invariant-rules l = (length l.tight.items ≡ l.rule-index) × ((n : ℕ) → n < l.rule-index → kept_by l.tight.items n ≡ is_tight l.top l.bottom l.rules l.arrivals n)
