-- Numbers of events that tell which of them are on no cycle.
use Rattle.std.specs.Prelude.{◌≡◌, ℕ, ◌<◌, ◌≤◌, Bool, true, List, length, get_or}
use Rattle.rule_system.specs.declared.rules.Rule.{Rule}
use Rattle.rule_system.specs.Rules.{source_of, target_of}
use Rattle.rule_system.specs.FirstCycle.{kept_by}

-- an event's number
abbrev pub number_of : List ℕ → ℕ → ℕ
number_of numbers event = get_or numbers event 0

-- no kept rule leads to a greater number
abbrev pub AreUnraised : List Rule → List Bool → List ℕ → Type 0
AreUnraised rules keep numbers =
    (n : ℕ) → n < length rules → kept_by keep n ≡ true → number_of numbers (target_of rules n) ≤ number_of numbers (source_of rules n)

-- a kept rule from the event to one of the same number
pub record StaysOnNumber (rules : List Rule) (keep : List Bool) (numbers : List ℕ) (event n : ℕ) : Type 0 where
  pub inside : n < length rules
  pub from : source_of rules n ≡ event
  pub kept : kept_by keep n ≡ true
  pub same : number_of numbers (target_of rules n) ≡ number_of numbers event
