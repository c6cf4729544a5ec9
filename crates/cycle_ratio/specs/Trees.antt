-- Numbers that rise from 0, and for each event the rule that raised it last.
use Rattle.std.specs.Prelude.{◌≡◌, ℕ, ◌+◌, ◌-◌, ◌*◌, ◌<◌, ◌≤◌, ◌==◌, Bool, false, Option, None, Some, List, length, get_or, slice_set, nat_lt, if◌then◌else◌}
use Rattle.rule_system.specs.declared.rules.Rule.{Rule}
use Rattle.rule_system.specs.Rules.{rule_at, source_of, target_of}
use Rattle.rule_system.specs.Walks.{IsCycle, IsKept}
use Rattle.rule_system.specs.Weights.{Gains}
use Rattle.first_cycle.specs.Numbers.{number_of}

-- the rule that raised an event last, if one did
abbrev pub parent_of : List (Option ℕ) → ℕ → Option ℕ
parent_of parents event = get_or parents event None

-- whether the parent is the rule of a number
abbrev pub is_parent : Option ℕ → ℕ → Bool
is_parent None n = false
is_parent (Some m) n = m == n

-- whether the rule is the parent of its target
abbrev pub is_chosen : List Rule → List (Option ℕ) → ℕ → Bool
is_chosen rules parents n = is_parent (parent_of parents (target_of rules n)) n

-- whether the rule leads to more than its target has
abbrev pub is_raising : ℕ → ℕ → Rule → List ℕ → Bool
is_raising top bottom rule numbers =
    nat_lt (number_of numbers rule.target + top * rule.offset) (number_of numbers rule.source + bottom * rule.delay)

-- the numbers with that of the rule's target raised to what the rule leads to
abbrev pub raised : ℕ → ℕ → Rule → List ℕ → List ℕ
raised top bottom rule numbers =
    if is_raising top bottom rule numbers
    then slice_set numbers rule.target (number_of numbers rule.source + bottom * rule.delay - top * rule.offset)
    else numbers

-- the parents with the rule for its target where the rule raises it
abbrev pub adopted : ℕ → ℕ → Rule → ℕ → List ℕ → List (Option ℕ) → List (Option ℕ)
adopted top bottom rule n numbers parents =
    if is_raising top bottom rule numbers then slice_set parents rule.target (Some n) else parents

-- an event without a parent has 0, one with a parent at most what that leads to, and a cycle of parents gains
pub record IsTree (top bottom events : ℕ) (rules : List Rule) (numbers : List ℕ) (parents : List (Option ℕ)) : Type 0 where
  pub count : length numbers ≡ events
  pub parent_count : length parents ≡ events
  pub rooted : (event : ℕ) → parent_of parents event ≡ None → number_of numbers event ≡ 0
  pub inside : (event n : ℕ) → parent_of parents event ≡ Some n → n < length rules
  pub above : (event n : ℕ) → parent_of parents event ≡ Some n → target_of rules n ≡ event
  pub backed : (event n : ℕ) → parent_of parents event ≡ Some n →
      number_of numbers event + top * (rule_at rules n).offset ≤ number_of numbers (source_of rules n) + bottom * (rule_at rules n).delay
  pub heavy : (cycle : List ℕ) → IsCycle rules cycle → IsKept (is_chosen rules parents) cycle → Gains top bottom rules cycle

-- each number is at most the bound
abbrev pub AreAtMost : ℕ → List ℕ → Type 0
AreAtMost bound numbers = (event : ℕ) → number_of numbers event ≤ bound
