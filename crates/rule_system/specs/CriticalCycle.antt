-- The critical cycle.
use Rattle.std.specs.Prelude.{ℕ, ℤ, List}
use Rattle.rule_system.specs.declared.rules.Rule.{Rule}
use Rattle.rule_system.specs.Weights.{AreArrivals, is_tight}
use Rattle.rule_system.specs.FirstCycle.{IsFirstCycle}

-- the first cycle of the rules that are tight for the arrivals from the root
pub record IsCriticalCycle (top bottom events : ℕ) (rules : List Rule) (root : ℕ) (cycle : List ℕ) : Type 0 where
  pub times : List ℤ
  pub are_arrivals : AreArrivals top bottom events rules root times
  pub first : IsFirstCycle rules (is_tight top bottom rules times) cycle
