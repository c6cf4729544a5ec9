use Rattle.std.proofs.Common.{◌≡◌, ◌<◌, ℕ, length}
use Rattle.rule_system.specs.FirstCycle.{kept_by}
use Rattle.cycle_ratio.specs.Trees.{is_chosen}
use Rattle.cycle_ratio.proofs.gains.chosen_rules.Given as goal

abbrev pub invariant-rules : goal.invariant-rules
invariant-rules l = (length l.chosen.items ≡ l.number) × ((n : ℕ) → n < l.number → kept_by l.chosen.items n ≡ is_chosen l.rules l.parents n)
