-- Walks and cycles. A walk is a list of rule numbers.
use Rattle.std.specs.Prelude.{◌≡◌, ℕ, ◌<◌, ◌≤◌, Bool, true, List, [], ◌∷◌, ◌++◌, length, map, eqb, ◌==◌}
use Rattle.std.specs.List.{IsDistinct, AllByRecursion}
use Rattle.rule_system.specs.declared.rules.Rule.{Rule}
use Rattle.rule_system.specs.Rules.{rule_at, source_of, target_of, offset_sum}

-- a walk from a to b: it starts with a rule from a, and from that rule's target it is a walk to b
abbrev pub IsWalk : List Rule → ℕ → List ℕ → ℕ → Type 0
IsWalk rules a [] b = a ≡ b
IsWalk rules a (n ∷ walk) b = (n < length rules) × (source_of rules n ≡ a) × IsWalk rules (target_of rules n) walk b

-- a cycle, or closed walk: a walk of at least one rule that ends where it starts
abbrev pub IsCycle : List Rule → List ℕ → Type 0
IsCycle rules [] = ⊥
IsCycle rules (n ∷ walk) = IsWalk rules (source_of rules n) (n ∷ walk) (source_of rules n)

-- the events that a walk from a comes by, in order: a, and each rule's target
abbrev pub events_of : List Rule → ℕ → List ℕ → List ℕ
events_of rules a walk = a ∷ map (target_of rules) walk

-- a walk that comes by no event twice
abbrev pub IsPath : List Rule → ℕ → List ℕ → ℕ → Type 0
IsPath rules a walk b = IsWalk rules a walk b × IsDistinct eqb (events_of rules a walk)

-- a cycle that comes by no event twice, its start at the end apart
abbrev pub IsSimpleCycle : List Rule → List ℕ → Type 0
IsSimpleCycle rules cycle = IsCycle rules cycle × IsDistinct eqb (map (target_of rules) cycle)

-- each rule of the walk is kept
abbrev pub IsKept : (ℕ → Bool) → List ℕ → Type 0
IsKept kept = AllByRecursion (λ n. kept n ≡ true)

-- a walk leads from a to b
abbrev pub Reaches : List Rule → ℕ → ℕ → Type 0
Reaches rules a b = (walk : List ℕ) × IsWalk rules a walk b

-- walks lead from the root to each event, and back
abbrev pub IsConnected : ℕ → List Rule → ℕ → Type 0
IsConnected events rules root = (event : ℕ) → event < events → Reaches rules root event × Reaches rules event root

-- every cycle has an offset of at least 1
abbrev pub IsLive : List Rule → Type 0
IsLive rules = (cycle : List ℕ) → IsCycle rules cycle → 1 ≤ offset_sum rules cycle

-- whether the rule's offset is 0
abbrev pub has_no_offset : List Rule → ℕ → Bool
has_no_offset rules n = (rule_at rules n).offset == 0

-- the ends of each rule are events
abbrev pub EndsBelow : ℕ → List Rule → Type 0
EndsBelow events rules = (n : ℕ) → n < length rules → (source_of rules n < events) × (target_of rules n < events)

-- a path between the ends of a walk, of rules of the walk and no more of them
pub record KeptPath (rules : List Rule) (kept : ℕ → Bool) (a : ℕ) (walk : List ℕ) (b : ℕ) : Type 0 where
  pub path : List ℕ
  pub is_path : IsPath rules a path b
  pub is_kept : IsKept kept path
  pub is_short : length path ≤ length walk

-- a walk parted round a cycle without repeated events, which can be taken out
pub record ClosedPart (rules : List Rule) (a : ℕ) (walk : List ℕ) (b : ℕ) : Type 0 where
  pub event : ℕ
  pub before : List ℕ
  pub part : List ℕ
  pub after : List ℕ
  pub joined : walk ≡ before ++ (part ++ after)
  pub to_it : IsWalk rules a before event
  pub closed : IsWalk rules event part event
  pub is_simple : IsSimpleCycle rules part
  pub from_it : IsWalk rules event after b
