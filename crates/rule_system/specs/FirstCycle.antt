-- The first of the cycles of kept rules.
use Rattle.std.specs.Prelude.{◌≡◌, ℕ, ◌<◌, ◌⊎◌, Bool, List, [], ◌∷◌, length, get_or, false, ⊤}
use Rattle.rule_system.specs.declared.rules.Rule.{Rule}
use Rattle.rule_system.specs.Rules.{source_of}
use Rattle.rule_system.specs.Walks.{IsCycle, IsKept}

-- the event that a walk of at least one rule starts at
abbrev pub start_of : List Rule → List ℕ → ℕ
start_of rules [] = 0
start_of rules (n ∷ walk) = source_of rules n

-- of two lists the first difference decides
abbrev pub IsListBefore : List ℕ → List ℕ → Type 0
IsListBefore [] w = ⊤
IsListBefore (n ∷ v) [] = ⊥
IsListBefore (n ∷ v) (m ∷ w) = (n < m) ⊎ ((n ≡ m) × IsListBefore v w)

-- the one cycle is not after the other: by the start, then by the length, then in the order of lists
abbrev pub IsCycleBefore : List Rule → List ℕ → List ℕ → Type 0
IsCycleBefore rules c d =
    (start_of rules c < start_of rules d)
    ⊎ ((start_of rules c ≡ start_of rules d) × ((length c < length d) ⊎ ((length c ≡ length d) × IsListBefore c d)))

-- the first of the cycles of kept rules
pub record IsFirstCycle (rules : List Rule) (kept : ℕ → Bool) (cycle : List ℕ) : Type 0 where
  pub is_cycle : IsCycle rules cycle
  pub is_kept : IsKept kept cycle
  pub first : (other : List ℕ) → IsCycle rules other → IsKept kept other → IsCycleBefore rules cycle other

-- whether flags keep a rule
abbrev pub kept_by : List Bool → ℕ → Bool
kept_by keep n = get_or keep n false
