-- Orders of the events along the rules of offset 0, and how far a search for one is.
use Rattle.std.specs.Prelude.{◌≡◌, ℕ, ◌<◌, ◌≤◌, List, length, get_or, reverse, eqb, All}
use Rattle.std.specs.List.{IsDistinct, AllByRecursion}
use Rattle.rule_system.specs.declared.rules.Rule.{Rule}
use Rattle.rule_system.specs.Rules.{rule_at, source_of, target_of}
use Rattle.rule_system.specs.Bounds.{rules_into}
use Rattle.rule_system.specs.Walks.{IsWalk, IsCycle, IsKept, has_no_offset}

-- one number stands before another in a list
pub record StandsBefore (order : List ℕ) (a b : ℕ) : Type 0 where
  pub first : ℕ
  pub second : ℕ
  pub rising : first < second
  pub inside : second < length order
  pub is_first : get_or order first 0 ≡ a
  pub is_second : get_or order second 0 ≡ b

-- the list holds each event once, and along each rule of offset 0 the source stands before the target
pub record IsForward (events : ℕ) (rules : List Rule) (order : List ℕ) : Type 0 where
  pub counts : length order ≡ events
  pub are_events : All (λ event. event < events) order
  pub once : IsDistinct eqb order
  pub forward : (n : ℕ) → n < length rules → (rule_at rules n).offset ≡ 0 → StandsBefore order (source_of rules n) (target_of rules n)

-- a cycle of rules of offset 0
pub record DeadCycle (rules : List Rule) : Type 0 where
  pub cycle : List ℕ
  pub is_cycle : IsCycle rules cycle
  pub is_dead : IsKept (has_no_offset rules) cycle

-- an event's place in the order, or the number of events where it has none yet
abbrev pub place_of : List ℕ → ℕ → ℕ
place_of places event = get_or places event 0

-- the order so far: its events have their places, and along rules of offset 0 to them the places rise
pub record ArePlaces (events : ℕ) (rules : List Rule) (order places : List ℕ) : Type 0 where
  pub counts : length places ≡ events
  pub there : (i : ℕ) → i < length order → (get_or order i 0 < events) × (place_of places (get_or order i 0) ≡ i)
  pub held : (event : ℕ) → event < events → place_of places event < events → (place_of places event < length order) × (get_or order (place_of places event) 0 ≡ event)
  pub rising : (n : ℕ) → n < length rules → (rule_at rules n).offset ≡ 0 → place_of places (target_of rules n) < events → place_of places (source_of rules n) < place_of places (target_of rules n)

-- the rule holds its target back no more: it has an offset, or its source has a place
abbrev pub IsSettled : ℕ → List Rule → List ℕ → ℕ → Type 0
IsSettled events rules places n = (rule_at rules n).offset ≡ 0 → place_of places (source_of rules n) < events

-- the rule holds its target back
pub record IsWaiting (events : ℕ) (rules : List Rule) (places : List ℕ) (event n : ℕ) : Type 0 where
  pub inside : n < length rules
  pub to_it : target_of rules n ≡ event
  pub dead : (rule_at rules n).offset ≡ 0
  pub left : events ≤ place_of places (source_of rules n)

-- of the rules into each event so many of the first hold it back no more
pub record AreTried (events : ℕ) (rules : List Rule) (places tried : List ℕ) : Type 0 where
  pub counts : length tried ≡ events
  pub settled : (event k : ℕ) → event < events → k < get_or tried event 0 → k < length (rules_into rules event) → IsSettled events rules places (get_or (rules_into rules event) k 0)

-- the rules of the trail, the last first, lead from the event to the root, have no offset, and their targets have no place
pub record IsTrail (events : ℕ) (rules : List Rule) (places : List ℕ) (root event : ℕ) (trail : List ℕ) : Type 0 where
  pub is_walk : IsWalk rules event (reverse trail) root
  pub is_dead : IsKept (has_no_offset rules) (reverse trail)
  pub are_left : AllByRecursion (λ n. events ≤ place_of places (target_of rules n)) (reverse trail)
  pub is_event : event < events
  pub is_left : events ≤ place_of places event
  pub short : length trail < events

-- the search went on: an event has a place now, as all that had one before
pub record HasPlaced (events : ℕ) (rules : List Rule) (event : ℕ) (before order places tried : List ℕ) : Type 0 where
  pub are_places : ArePlaces events rules order places
  pub are_tried : AreTried events rules places tried
  pub placed : place_of places event < events
  pub stay : (other : ℕ) → place_of before other < events → place_of places other < events
