-- What shared words are about: a system, a root and a period.
use Rattle.std.specs.Prelude.{◌≡◌, ℕ, ◌<◌, ℤ, List}
use Rattle.cyc_num.specs.Ratio.{Fraction, IsSmallRatio}
use Rattle.cyc_num.specs.Within.{LiesWithin, time_limit}
use Rattle.rule_system.specs.declared.rules.Rule.{Rule}
use Rattle.rule_system.specs.Bounds.{EventRules, IsSystem}
use Rattle.rule_system.specs.Walks.{IsWalk}
use Rattle.rule_system.specs.Weights.{weight, HasNoGain}

-- a system, a root and a period
pub record About : Type 0 where
  pub events : ℕ
  pub rules : List Rule
  pub root : ℕ
  pub top : ℕ
  pub bottom : ℕ

-- these of a call
abbrev pub about : EventRules → ℕ → Fraction → About
about system root period = record {
  events = system.events;
  rules = system.rules;
  root = root;
  top = period.top;
  bottom = period.bottom;
}

-- the system of it
abbrev pub system_of : About → EventRules
system_of a = record { events = a.events; rules = a.rules }

-- a system, a root among its events, a period within the limits, and no cycle of positive weight
pub record IsSound (a : About) : Type 0 where
  pub system : IsSystem a.events a.rules
  pub root : a.root < a.events
  pub period : IsSmallRatio a.top a.bottom
  pub no_gain : HasNoGain a.top a.bottom a.rules

-- the number is the weight of a walk from the root to the event
pub record IsReached (a : About) (event : ℕ) (time : ℤ) : Type 0 where
  pub walk : List ℕ
  pub leads : IsWalk a.rules a.root walk event
  pub weighs : weight a.top a.bottom a.rules walk ≡ time

-- so is this number, and it is within the limit
pub record IsWeightOfWalk (a : About) (event : ℕ) (time : ℤ) : Type 0 where
  pub reached : IsReached a event time
  pub within : LiesWithin time_limit time
