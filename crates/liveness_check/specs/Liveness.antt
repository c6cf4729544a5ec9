-- The faults of a system that is not connected from its root, or not live.
use Rattle.std.specs.Prelude.{ℕ, ◌<◌, ◌≤◌, List}
use Rattle.rule_system.specs.declared.rules.Rule.{Rule}
use Rattle.rule_system.specs.Walks.{Reaches, IsConnected, has_no_offset}
use Rattle.rule_system.specs.FirstCycle.{IsFirstCycle}
use Rattle.first_cycle.specs.Levels.{level_of}
use Rattle.liveness_check.specs.declared.faults.LiveFault.{LiveFault}
use Rattle.liveness_check.specs.declared.faults.LiveFault.TheVariants.{Unreached, NoReturn, Dead, Memory}

-- the least event that no walk from the root reaches
pub record IsLeastUnreached (events : ℕ) (rules : List Rule) (root event : ℕ) : Type 0 where
  pub is_event : event < events
  pub unreached : Reaches rules root event → ⊥
  pub least : (other : ℕ) → other < event → Reaches rules root other

-- the least event from which no walk leads to the root
pub record IsLeastWithoutReturn (events : ℕ) (rules : List Rule) (root event : ℕ) : Type 0 where
  pub is_event : event < events
  pub without_return : Reaches rules event root → ⊥
  pub least : (other : ℕ) → other < event → Reaches rules other root

-- the first fault of the system, each under the condition that those before it do not hold
abbrev pub IsFault : ℕ → List Rule → ℕ → LiveFault → Type 0
IsFault events rules root (Unreached event) = IsLeastUnreached events rules root event
IsFault events rules root (NoReturn event) = ((other : ℕ) → other < events → Reaches rules root other) × IsLeastWithoutReturn events rules root event
IsFault events rules root (Dead cycle) = IsConnected events rules root × IsFirstCycle rules (has_no_offset rules) cycle
IsFault events rules root Memory = Unit {0}

-- the first event whose level is the number of events
pub record IsFirstLost (events : ℕ) (levels : List ℕ) (event : ℕ) : Type 0 where
  pub is_event : event < events
  pub lost : events ≤ level_of levels event
  pub first : (other : ℕ) → other < event → level_of levels other < events
