-- How many kept rules it takes from each event to one.
use Rattle.std.specs.Prelude.{◌≡◌, ℕ, ◌+◌, ◌<◌, ◌≤◌, ◌⊎◌, ◌==◌, ◌&&◌, Bool, true, List, length, get_or, nat_lt, slice_set, if◌then◌else◌}
use Rattle.rule_system.specs.declared.rules.Rule.{Rule}
use Rattle.rule_system.specs.Rules.{source_of, target_of}
use Rattle.rule_system.specs.Walks.{IsWalk, IsKept}
use Rattle.rule_system.specs.FirstCycle.{IsListBefore, kept_by}

-- a walk of kept rules
abbrev pub IsKeptWalk : List Rule → List Bool → ℕ → List ℕ → ℕ → Type 0
IsKeptWalk rules keep a walk b = IsWalk rules a walk b × IsKept (kept_by keep) walk

-- an event's level
abbrev pub level_of : List ℕ → ℕ → ℕ
level_of levels event = get_or levels event 0

-- from an event whose level is below the number of events a kept walk of so many rules leads to the end
abbrev pub AreReached : List Rule → List Bool → ℕ → List ℕ → Type 0
AreReached rules keep end levels =
    (event : ℕ) → event < length levels → level_of levels event < length levels →
    (walk : List ℕ) × IsKeptWalk rules keep event walk end × (length walk ≡ level_of levels event)

-- what a search from the end has found
pub record AreFound (events : ℕ) (rules : List Rule) (keep : List Bool) (end : ℕ) (levels : List ℕ) : Type 0 where
  pub count : length levels ≡ events
  pub zero : level_of levels end ≡ 0
  pub reached : AreReached rules keep end levels

-- the levels with that of the rule's source lowered to one above that of its target
abbrev pub lowered : Rule → List ℕ → List ℕ
lowered rule levels =
    if nat_lt (level_of levels rule.target + 1) (level_of levels rule.source)
    then slice_set levels rule.source (level_of levels rule.target + 1)
    else levels

-- among the first rules no kept one leads to a level that is lower by more than 1
abbrev pub AreSettled : List Rule → List Bool → List ℕ → ℕ → Type 0
AreSettled rules keep levels count =
    (n : ℕ) → n < count → kept_by keep n ≡ true → level_of levels (source_of rules n) ≤ level_of levels (target_of rules n) + 1

-- each level is the least number of kept rules to the end, or the number of events where no kept walk leads there
pub record AreLevels (events : ℕ) (rules : List Rule) (keep : List Bool) (end : ℕ) (levels : List ℕ) : Type 0 where
  pub count : length levels ≡ events
  pub reached : AreReached rules keep end levels
  pub settled : AreSettled rules keep levels (length rules)
  pub least : (event : ℕ) (walk : List ℕ) → IsKeptWalk rules keep event walk end → level_of levels event ≤ length walk
  pub below : (event : ℕ) (walk : List ℕ) → event < events → IsKeptWalk rules keep event walk end → level_of levels event < events

-- each level is the least number of kept rules from the start, or the number of events where no kept walk leads from there
pub record AreLevelsFrom (events : ℕ) (rules : List Rule) (keep : List Bool) (start : ℕ) (levels : List ℕ) : Type 0 where
  pub count : length levels ≡ events
  pub reached : (event : ℕ) → event < length levels → level_of levels event < length levels →
      (walk : List ℕ) × IsKeptWalk rules keep start walk event × (length walk ≡ level_of levels event)
  pub least : (event : ℕ) (walk : List ℕ) → IsKeptWalk rules keep start walk event → level_of levels event ≤ length walk
  pub below : (event : ℕ) (walk : List ℕ) → event < events → IsKeptWalk rules keep start walk event → level_of levels event < events

-- the first in the order of lists of the kept walks with the fewest rules
pub record IsLeastWalk (rules : List Rule) (keep : List Bool) (a count : ℕ) (walk : List ℕ) (b : ℕ) : Type 0 where
  pub is_walk : IsKeptWalk rules keep a walk b
  pub has_length : length walk ≡ count
  pub first : (other : List ℕ) → IsKeptWalk rules keep a other b → length other ≡ count → IsListBefore walk other

-- a kept rule from the event to one whose level is lower by 1
abbrev pub LeadsNearer : List Rule → List Bool → List ℕ → ℕ → ℕ → Type 0
LeadsNearer rules keep levels at number =
    (source_of rules number ≡ at) × (kept_by keep number ≡ true) × (level_of levels (target_of rules number) + 1 ≡ level_of levels at)

-- the rule starts a shortest kept walk, and no rule of a lower number does
pub record IsNextRule (rules : List Rule) (keep : List Bool) (levels : List ℕ) (at number : ℕ) : Type 0 where
  pub inside : number < length rules
  pub from : source_of rules number ≡ at
  pub kept : kept_by keep number ≡ true
  pub nearer : level_of levels (target_of rules number) + 1 ≡ level_of levels at
  pub first : (other : ℕ) → other < length rules → LeadsNearer rules keep levels at other → number ≤ other

-- how many rules it takes from the event to the end through a kept rule, or the number of events
abbrev pub level_through : List Rule → List Bool → List ℕ → ℕ → ℕ → ℕ
level_through rules keep levels event number =
    if (source_of rules number == event) && kept_by keep number then level_of levels (target_of rules number) else length levels

-- the first place of the least value among the first so many
abbrev pub IsFirstLeast : (ℕ → ℕ) → ℕ → ℕ → Type 0
IsFirstLeast f count best = (best < count) × ((n : ℕ) → n < count → (f best < f n) ⊎ ((f best ≡ f n) × (best ≤ n)))
