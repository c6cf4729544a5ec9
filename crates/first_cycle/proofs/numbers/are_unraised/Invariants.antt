use Rattle.std.proofs.Common.{◌≡◌, ℕ, ◌<◌, ◌≤◌, true}
use Rattle.rule_system.specs.Rules.{source_of, target_of}
use Rattle.rule_system.specs.FirstCycle.{kept_by}
use Rattle.first_cycle.specs.Numbers.{number_of}
use Rattle.first_cycle.proofs.numbers.are_unraised.Given as goal

abbrev pub invariant-rules : goal.invariant-rules
invariant-rules l = (n : ℕ) → n < l.number → kept_by l.keep n ≡ true → number_of l.numbers (target_of l.rules n) ≤ number_of l.numbers (source_of l.rules n)
