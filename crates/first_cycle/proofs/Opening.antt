-- The first of the shortest kept cycles from an event.
use Rattle.std.proofs.Common.{◌≡◌, ℕ, ◌<◌, ◌≤◌, Bool, true, false, ◌&&◌, List, [], ◌∷◌, length, ◌⊎◌, inl, inr, refl, subst, arith, ◌==◌, if◌then◌else◌}
use Rattle.std.proofs.lemmas.Bool.Decides.{nat_tests}
use Rattle.rule_system.specs.declared.rules.Rule.{Rule}
use Rattle.rule_system.specs.Rules.{source_of, target_of}
use Rattle.rule_system.specs.FirstCycle.{start_of, kept_by}
use Rattle.rule_system.specs.Walks.{IsWalk, IsCycle, IsKept, EndsBelow}
use Rattle.first_cycle.specs.Levels.{IsKeptWalk, level_of, level_through, AreLevels, IsFirstLeast}

-- through a kept rule from the event it takes as many rules as from the rule's target
through_kept : (rs : List Rule) (keep : List Bool) (levels : List ℕ) (event n : ℕ) → source_of rs n ≡ event → kept_by keep n ≡ true → level_through rs keep levels event n ≡ level_of levels (target_of rs n)
through_kept rs keep levels event n s k =
    let b : (source_of rs n == event) ≡ true = grind (arith, nat_tests) in
    rw (b, k) refl

-- and where it takes fewer than there are events, the rule is such a one
through_low : (rs : List Rule) (keep : List Bool) (levels : List ℕ) (event n : ℕ) → level_through rs keep levels event n < length levels → (source_of rs n ≡ event) × (kept_by keep n ≡ true)
through_low rs keep levels event n low = go (source_of rs n == event) (kept_by keep n) refl refl low
  where
    go : (b k : Bool) → (source_of rs n == event) ≡ b → kept_by keep n ≡ k → (if b && k then level_of levels (target_of rs n) else length levels) < length levels → (source_of rs n ≡ event) × (kept_by keep n ≡ true)
    go true true e f l = (grind (arith, nat_tests), f)
    go true false e f l = absurd (omega arith)
    go false k e f l = absurd (omega arith)

-- the rest of a kept cycle from an event leads back to it
back : (rs : List Rule) (keep : List Bool) (event m : ℕ) (v : List ℕ) → IsCycle rs (m ∷ v) → IsKept (kept_by keep) (m ∷ v) → source_of rs m ≡ event → IsKeptWalk rs keep (target_of rs m) v event
back rs keep event m v c k s = (subst (λ (x : ℕ). IsWalk rs (target_of rs m) v x) s c.2, k.1)

-- where no rule leads back, no kept cycle starts at the event
pub none_from : (events : ℕ) (rs : List Rule) (keep : List Bool) (event best : ℕ) (levels : List ℕ) → EndsBelow events rs → AreLevels events rs keep event levels → IsFirstLeast (level_through rs keep levels event) (length rs) best → events ≤ level_through rs keep levels event best → (cycle : List ℕ) → IsCycle rs cycle → IsKept (kept_by keep) cycle → start_of rs cycle ≡ event → ⊥
none_from events rs keep event best levels ends h b high [] c k s = c
none_from events rs keep event best levels ends h b high (m ∷ v) c k s = go (b.1 m c.0)
  where
    low : level_of levels (target_of rs m) < events
    low = h.below (target_of rs m) v (ends m c.0).1 (back rs keep event m v c k s)

    same : level_through rs keep levels event m ≡ level_of levels (target_of rs m)
    same = through_kept rs keep levels event m s k.0

    go : (level_through rs keep levels event best < level_through rs keep levels event m) ⊎ ((level_through rs keep levels event best ≡ level_through rs keep levels event m) × (best ≤ m)) → ⊥
    go (inl p) = let l : level_of levels (target_of rs m) < events = low in let e : level_through rs keep levels event m ≡ level_of levels (target_of rs m) = same in omega arith
    go (inr p) = let l : level_of levels (target_of rs m) < events = low in let e : level_through rs keep levels event m ≡ level_of levels (target_of rs m) = same in let q : level_through rs keep levels event best ≡ level_through rs keep levels event m = p.0 in omega arith
