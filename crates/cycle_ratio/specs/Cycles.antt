-- Which systems have a period, and the cycles that the search goes through.
use Rattle.std.specs.Prelude.{ℕ, ◌≤◌, List, length}
use Rattle.rule_system.specs.declared.rules.Rule.{Rule}
use Rattle.rule_system.specs.Walks.{IsCycle}

-- there is a cycle
abbrev pub HasCycle : List Rule → Type 0
HasCycle rules = (cycle : List ℕ) × IsCycle rules cycle

-- a cycle of at most as many rules as there are events
pub record IsShortCycle (events : ℕ) (rules : List Rule) (cycle : List ℕ) : Type 0 where
  pub is_cycle : IsCycle rules cycle
  pub short : length cycle ≤ events
