-- One step of relaxation.
use Rattle.std.specs.Prelude.{ℕ, ℤ, pos, ◌+ℤ◌, ◌≤ℤ◌, List, slice_set}
use Rattle.std.specs.Int.{int_max}
use Rattle.rule_system.specs.declared.rules.Rule.{Rule}
use Rattle.rule_system.specs.Weights.{rule_weight, time_of}

-- the numbers with that of the rule's target raised to what the rule offers
abbrev pub raised : ℕ → ℕ → Rule → List ℤ → List ℤ
raised top bottom rule times =
    slice_set times rule.target (int_max (time_of times rule.target) (time_of times rule.source +ℤ rule_weight top bottom rule))

-- no number lies below minus the bound
abbrev pub AreAbove : ℕ → List ℤ → Type 0
AreAbove bound times = (event : ℕ) → pos 0 ≤ℤ (time_of times event +ℤ pos bound)

-- no number lies above the bound
abbrev pub AreBelow : ℕ → List ℤ → Type 0
AreBelow bound times = (event : ℕ) → time_of times event ≤ℤ pos bound
