use Rattle.std.proofs.Common.{ℕ, ◌<◌, get_or}
use Rattle.rule_system.specs.Bounds.{rules_out_of}
use Rattle.first_cycle.specs.Levels.{LeadsNearer}
use Rattle.first_cycle.proofs.steps.next_rule.Given as goal

abbrev pub invariant-numbers : goal.invariant-numbers
invariant-numbers l = (k : ℕ) → k < l.number-index → LeadsNearer l.system.rules l.keep l.levels l.at (get_or (rules_out_of l.system.rules l.at) k 0) → ⊥
