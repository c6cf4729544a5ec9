-- What walks of so many rules the plain programs try.
use Rattle.std.specs.Prelude.{◌≡◌, ℕ, ◌*◌, ◌<◌, ◌≤◌, ℤ, ◌+ℤ◌, ◌≤ℤ◌, Bool, Option, Some, None, List, ◌∷◌, length, ⊤}
use Rattle.std.specs.Int.{int_max}
use Rattle.cyc_num.specs.Within.{LiesWithin}
use Rattle.rule_system.specs.declared.rules.Rule.{Rule}
use Rattle.rule_system.specs.Bounds.{most_weight}
use Rattle.rule_system.specs.Rules.{source_of, target_of}
use Rattle.rule_system.specs.Walks.{IsWalk, IsCycle, IsKept}
use Rattle.rule_system.specs.Weights.{weight}
use Rattle.rule_system.specs.FirstCycle.{IsListBefore, IsCycleBefore, start_of}

-- a walk of so many rules, all of them kept
pub record IsKeptWalk (rules : List Rule) (kept : ℕ → Bool) (count a : ℕ) (walk : List ℕ) (b : ℕ) : Type 0 where
  pub is_walk : IsWalk rules a walk b
  pub is_kept : IsKept kept walk
  pub counts : length walk ≡ count

-- of these walks the first in the order of lists
pub record IsFirstWalk (rules : List Rule) (kept : ℕ → Bool) (count a : ℕ) (walk : List ℕ) (b : ℕ) : Type 0 where
  pub is_walk : IsKeptWalk rules kept count a walk b
  pub first : (other : List ℕ) → IsKeptWalk rules kept count a other b → IsListBefore walk other

-- none of these walks starts with a rule below a number
abbrev pub NoWalkBelow : List Rule → (ℕ → Bool) → ℕ → ℕ → ℕ → ℕ → Type 0
NoWalkBelow rules kept count a b number =
    (n : ℕ) (walk : List ℕ) → n < number → IsKeptWalk rules kept count a (n ∷ walk) b → ⊥

-- of the kept cycles that start at an event the first
pub record IsFirstFrom (rules : List Rule) (kept : ℕ → Bool) (start : ℕ) (cycle : List ℕ) : Type 0 where
  pub is_cycle : IsCycle rules cycle
  pub is_kept : IsKept kept cycle
  pub starts : start_of rules cycle ≡ start
  pub first : (other : List ℕ) → IsCycle rules other → IsKept kept other → start_of rules other ≡ start → IsCycleBefore rules cycle other

-- no kept cycle starts at the event
abbrev pub NoneFrom : List Rule → (ℕ → Bool) → ℕ → Type 0
NoneFrom rules kept start = (cycle : List ℕ) → IsCycle rules cycle → IsKept kept cycle → start_of rules cycle ≡ start → ⊥

-- a walk of at most so many rules
pub record IsShortWalk (rules : List Rule) (left a : ℕ) (walk : List ℕ) (b : ℕ) : Type 0 where
  pub is_walk : IsWalk rules a walk b
  pub is_short : length walk ≤ left

-- the greatest weight of these walks
pub record IsGreatestWeight (top bottom : ℕ) (rules : List Rule) (left a b : ℕ) (time : ℤ) : Type 0 where
  pub walk : List ℕ
  pub is_walk : IsShortWalk rules left a walk b
  pub attained : weight top bottom rules walk ≡ time
  pub greatest : (other : List ℕ) → IsShortWalk rules left a other b → weight top bottom rules other ≤ℤ time

-- the greatest weight of these walks, or none where there is no walk
abbrev pub IsGreatest : ℕ → ℕ → List Rule → ℕ → ℕ → ℕ → Option ℤ → Type 0
IsGreatest top bottom rules left a b None = (walk : List ℕ) → IsShortWalk rules left a walk b → ⊥
IsGreatest top bottom rules left a b (Some time) = IsGreatestWeight top bottom rules left a b time

-- none, or within so many times the limit of a rule's weight
abbrev pub IsWithin : ℕ → Option ℤ → Type 0
IsWithin left None = ⊤
IsWithin left (Some time) = LiesWithin (most_weight * left) time

-- the greater of two weights, where none is less than any
abbrev pub greater_of : Option ℤ → Option ℤ → Option ℤ
greater_of None b = b
greater_of (Some x) None = Some x
greater_of (Some x) (Some y) = Some (int_max x y)

-- the weight with that of a rule before it
abbrev pub after_rule : ℤ → Option ℤ → Option ℤ
after_rule first None = None
after_rule first (Some rest) = Some (first +ℤ rest)

-- the greatest weight of a cycle of the rule and at most so many more, or none where there is none
abbrev pub IsGreatestClosing : ℕ → ℕ → List Rule → ℕ → ℕ → Option ℤ → Type 0
IsGreatestClosing top bottom rules left n None = (walk : List ℕ) → IsShortWalk rules left (target_of rules n) walk (source_of rules n) → ⊥
IsGreatestClosing top bottom rules left n (Some time) =
    ((walk : List ℕ) × IsShortWalk rules left (target_of rules n) walk (source_of rules n) × (weight top bottom rules (n ∷ walk) ≡ time))
    × ((walk : List ℕ) → IsShortWalk rules left (target_of rules n) walk (source_of rules n) → weight top bottom rules (n ∷ walk) ≤ℤ time)
