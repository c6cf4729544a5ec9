-- Events reached from the root, each by a path over reached events.
use Rattle.std.specs.Prelude.{◌≡◌, ℕ, ◌≤◌, ℤ, Bool, true, false, List, length, slice_index_or}
use Rattle.std.specs.List.{AllByRecursion}
use Rattle.rule_system.specs.declared.rules.Rule.{Rule}
use Rattle.rule_system.specs.Walks.{IsWalk, IsPath, events_of}
use Rattle.rule_system.specs.Weights.{weight, time_of}

-- the flags say that the event is reached
abbrev pub IsReached : List Bool → ℕ → Type 0
IsReached reached event = slice_index_or reached event false ≡ true

-- a path from the root to the event, over reached events, of this weight
pub record ReachedPath (top bottom : ℕ) (rules : List Rule) (root : ℕ) (reached : List Bool) (event : ℕ) (time : ℤ) : Type 0 where
  pub path : List ℕ
  pub is_path : IsPath rules root path event
  pub over : AllByRecursion (IsReached reached) (events_of rules root path)
  pub attained : weight top bottom rules path ≡ time

-- each reached event's number is the weight of such a path
pub record IsTree (top bottom events : ℕ) (rules : List Rule) (root : ℕ) (times : List ℤ) (reached : List Bool) : Type 0 where
  pub times_count : length times ≡ events
  pub reached_count : length reached ≡ events
  pub root_reached : IsReached reached root
  pub paths : (event : ℕ) → IsReached reached event → ReachedPath top bottom rules root reached event (time_of times event)

-- what was reached stays reached
abbrev pub StaysReached : List Bool → List Bool → Type 0
StaysReached before after = (event : ℕ) → IsReached before event → IsReached after event

-- each walk of at most that many rules from the root ends at a reached event
abbrev pub ReachesAll : List Rule → ℕ → ℕ → List Bool → Type 0
ReachesAll rules root count reached =
    (walk : List ℕ) (event : ℕ) → IsWalk rules root walk event → length walk ≤ count → IsReached reached event
