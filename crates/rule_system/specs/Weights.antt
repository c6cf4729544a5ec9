-- What a ratio top/bottom makes of walks: weights, the period, arrivals, tight rules.
use Rattle.std.specs.Prelude.{◌≡◌, ℕ, ◌*◌, ◌/◌, ◌<◌, ◌≤◌, ℤ, pos, ◌+ℤ◌, ◌-ℤ◌, ◌≤ℤ◌, Bool, List, length, slice_index_or}
use Rattle.std.specs.Int.{IsGcd}
use Rattle.std.specs.Ordering.{int_eq}
use Rattle.rule_system.specs.declared.rules.Rule.{Rule}
use Rattle.rule_system.specs.Rules.{rule_at, source_of, target_of, delay_sum, offset_sum}
use Rattle.rule_system.specs.Walks.{IsWalk, IsCycle, IsSimpleCycle, IsKept}

-- bottom times the walk's delay, less top times its offset
abbrev pub weight : ℕ → ℕ → List Rule → List ℕ → ℤ
weight top bottom rules walk = pos (bottom * delay_sum rules walk) -ℤ pos (top * offset_sum rules walk)

-- the same of one rule
abbrev pub rule_weight : ℕ → ℕ → Rule → ℤ
rule_weight top bottom rule = pos (bottom * rule.delay) -ℤ pos (top * rule.offset)

-- no cycle has a positive weight
abbrev pub HasNoGain : ℕ → ℕ → List Rule → Type 0
HasNoGain top bottom rules = (cycle : List ℕ) → IsCycle rules cycle → bottom * delay_sum rules cycle ≤ top * offset_sum rules cycle

-- how many steps of one over the bound's square lie below a ratio
abbrev pub rank : ℕ → ℕ → ℕ → ℕ
rank bound top bottom = bound * bound * top / bottom

-- the cycle has a greater ratio than top/bottom, which is a positive weight
abbrev pub Gains : ℕ → ℕ → List Rule → List ℕ → Type 0
Gains top bottom rules cycle = top * offset_sum rules cycle < bottom * delay_sum rules cycle

-- the cycle has the ratio top/bottom
abbrev pub Attains : ℕ → ℕ → List Rule → List ℕ → Type 0
Attains top bottom rules cycle = bottom * delay_sum rules cycle ≡ top * offset_sum rules cycle

-- top/bottom, in lowest terms, is the greatest ratio of delay to offset over all cycles
pub record IsPeriod (rules : List Rule) (top bottom : ℕ) : Type 0 where
  pub positive : 1 ≤ bottom
  pub lowest : IsGcd top bottom 1
  pub cycle : List ℕ
  pub is_cycle : IsCycle rules cycle
  pub attained : Attains top bottom rules cycle
  pub greatest : HasNoGain top bottom rules

-- the system has a period
pub record HasPeriod (rules : List Rule) : Type 0 where
  pub top : ℕ
  pub bottom : ℕ
  pub is_period : IsPeriod rules top bottom

-- the number of an event in a list of numbers
abbrev pub time_of : List ℤ → ℕ → ℤ
time_of times event = slice_index_or times event (pos 0)

-- along each rule the numbers rise by at least its weight
abbrev pub IsFeasible : ℕ → ℕ → List Rule → List ℤ → Type 0
IsFeasible top bottom rules times =
    (n : ℕ) → n < length rules →
    (time_of times (source_of rules n) +ℤ rule_weight top bottom (rule_at rules n)) ≤ℤ time_of times (target_of rules n)

-- time is the greatest weight of a walk from the root to the event
pub record IsArrival (top bottom : ℕ) (rules : List Rule) (root event : ℕ) (time : ℤ) : Type 0 where
  pub walk : List ℕ
  pub is_walk : IsWalk rules root walk event
  pub attained : weight top bottom rules walk ≡ time
  pub greatest : (walk : List ℕ) → IsWalk rules root walk event → weight top bottom rules walk ≤ℤ time

-- each number is the arrival of its event
abbrev pub AreArrivals : ℕ → ℕ → ℕ → List Rule → ℕ → List ℤ → Type 0
AreArrivals top bottom events rules root times =
    (length times ≡ events) × ((event : ℕ) → event < events → IsArrival top bottom rules root event (time_of times event))

-- the rule leads from the one number just to the other
abbrev pub IsTight : ℕ → ℕ → List Rule → List ℤ → ℕ → Type 0
IsTight top bottom rules times n =
    time_of times (source_of rules n) +ℤ rule_weight top bottom (rule_at rules n) ≡ time_of times (target_of rules n)

-- a walk between the same events that has fewer rules than there are events, and at least the weight
pub record ShortWalkAtLeast (top bottom events : ℕ) (rules : List Rule) (a : ℕ) (walk : List ℕ) (b : ℕ) : Type 0 where
  pub short : List ℕ
  pub is_walk : IsWalk rules a short b
  pub is_short : length short < events
  pub at_least : weight top bottom rules walk ≤ℤ weight top bottom rules short

-- a cycle without repeated events that has a positive weight
pub record GainCycle (top bottom : ℕ) (rules : List Rule) : Type 0 where
  pub cycle : List ℕ
  pub is_simple : IsSimpleCycle rules cycle
  pub gains : Gains top bottom rules cycle

-- whether the rule is tight
abbrev pub is_tight : ℕ → ℕ → List Rule → List ℤ → ℕ → Bool
is_tight top bottom rules times n =
    int_eq (time_of times (source_of rules n) +ℤ rule_weight top bottom (rule_at rules n)) (time_of times (target_of rules n))

-- each walk of at most that many rules from the root weighs at most the number of its end
abbrev pub Covers : ℕ → ℕ → List Rule → ℕ → ℕ → List ℤ → Type 0
Covers top bottom rules root count times =
    (walk : List ℕ) (event : ℕ) → IsWalk rules root walk event → length walk ≤ count →
    weight top bottom rules walk ≤ℤ time_of times event

-- no number sinks, and each rule's target has at least what its source had and the rule's weight
abbrev pub IsRound : ℕ → ℕ → List Rule → List ℤ → List ℤ → Type 0
IsRound top bottom rules before after =
    ((event : ℕ) → time_of before event ≤ℤ time_of after event)
    × ((n : ℕ) → n < length rules → (time_of before (source_of rules n) +ℤ rule_weight top bottom (rule_at rules n)) ≤ℤ time_of after (target_of rules n))

-- each number is the weight of a walk from the root to its event
abbrev pub AreAttained : ℕ → ℕ → ℕ → List Rule → ℕ → List ℤ → Type 0
AreAttained top bottom events rules root times =
    (length times ≡ events)
    × ((event : ℕ) → event < events → (walk : List ℕ) × IsWalk rules root walk event × (weight top bottom rules walk ≡ time_of times event))

-- time is the weight of a walk to the event from some event
pub record AttainedFrom (top bottom events : ℕ) (rules : List Rule) (event : ℕ) (time : ℤ) : Type 0 where
  pub root : ℕ
  pub below : root < events
  pub walk : List ℕ
  pub is_walk : IsWalk rules root walk event
  pub attained : weight top bottom rules walk ≡ time

-- each number is the weight of a walk to its event from some event
abbrev pub AreAttainedAnywhere : ℕ → ℕ → ℕ → List Rule → List ℤ → Type 0
AreAttainedAnywhere top bottom events rules times =
    (event : ℕ) → event < events → AttainedFrom top bottom events rules event (time_of times event)

-- a walk of tight rules from the root to the event
pub record TightWalk (top bottom : ℕ) (rules : List Rule) (root : ℕ) (times : List ℤ) (event : ℕ) : Type 0 where
  pub walk : List ℕ
  pub is_walk : IsWalk rules root walk event
  pub are_tight : IsKept (is_tight top bottom rules times) walk
