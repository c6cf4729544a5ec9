-- Walks and cycles are tested one rule at a time.
use Rattle.std.proofs.Common.{◌≡◌, ℕ, ◌<◌, Bool, true, false, List, [], ◌∷◌, length, ◌⊎◌, inl, inr}
use Rattle.std.specs.List.{AllByRecursion}
use Rattle.std.proofs.lemmas.Bool.{cases_Bool}
use Rattle.rule_system.specs.declared.rules.Rule.{Rule}
use Rattle.rule_system.specs.Rules.{source_of, target_of}
use Rattle.rule_system.specs.Walks.{IsWalk, IsCycle, IsKept}
use Rattle.rule_system.proofs.Search.{both_tested, all_three_tested, lt_tested, eq_tested}

pub walk_tested : (rs : List Rule) (a : ℕ) (w : List ℕ) (b : ℕ) → IsWalk rs a w b ⊎ (IsWalk rs a w b → ⊥)
walk_tested rs a [] b = eq_tested a b
walk_tested rs a (n ∷ w) b = all_three_tested (lt_tested n (length rs)) (eq_tested (source_of rs n) a) (walk_tested rs (target_of rs n) w b)

pub cycle_tested : (rs : List Rule) (w : List ℕ) → IsCycle rs w ⊎ (IsCycle rs w → ⊥)
cycle_tested rs [] = inr (λ h. h)
cycle_tested rs (n ∷ w) = walk_tested rs (source_of rs n) (n ∷ w) (source_of rs n)

pub kept_tested : (kept : ℕ → Bool) (w : List ℕ) → IsKept kept w ⊎ (IsKept kept w → ⊥)
kept_tested kept [] = inl tt
kept_tested kept (n ∷ w) = both_tested (go (cases_Bool (kept n))) (kept_tested kept w)
  where
    go : (kept n ≡ true) ⊎ (kept n ≡ false) → (kept n ≡ true) ⊎ (kept n ≡ true → ⊥)
    go (inl e) = inl e
    go (inr e) = inr (λ h. cc)

-- a walk's numbers are below the count of rules
pub walk_numbers : (rs : List Rule) (a : ℕ) (w : List ℕ) (b : ℕ) → IsWalk rs a w b → AllByRecursion (λ k. k < length rs) w
walk_numbers rs a [] b h = tt
walk_numbers rs a (n ∷ w) b h = (h.0, walk_numbers rs (target_of rs n) w b h.2)

pub cycle_numbers : (rs : List Rule) (w : List ℕ) → IsCycle rs w → AllByRecursion (λ k. k < length rs) w
cycle_numbers rs [] h = absurd h
cycle_numbers rs (n ∷ w) h = walk_numbers rs (source_of rs n) (n ∷ w) (source_of rs n) h
