-- The analysis of a system from a root, with the slacks of forks.
use Rattle.std.specs.Prelude.{ℕ, List}
use Rattle.rule_system.specs.Bounds.{EventRules}
use Rattle.rule_system.specs.Walks.{IsConnected, IsLive}
use Rattle.rule_system.specs.Weights.{IsPeriod, AreArrivals}
use Rattle.rule_system.specs.CriticalCycle.{IsCriticalCycle}
use Rattle.fork_slack.specs.declared.slacks.ForkOf.{ForkOf}
use Rattle.analysis.specs.declared.analyses.Analysis.{Analysis}
use Rattle.analysis.specs.Forks.{AreSlacks}

-- of a system that is connected from the root and live: its period, its critical cycle, the arrivals of all its events
-- from the root, and the slack of each fork from the fork's own root
pub record IsAnalysis (system : EventRules) (root : ℕ) (forks : List ForkOf) (analysis : Analysis) : Type 0 where
  pub connected : IsConnected system.events system.rules root
  pub live : IsLive system.rules
  pub period : IsPeriod system.rules analysis.period.top analysis.period.bottom
  pub cycle : IsCriticalCycle analysis.period.top analysis.period.bottom system.events system.rules root analysis.cycle
  pub arrivals : AreArrivals analysis.period.top analysis.period.bottom system.events system.rules root analysis.arrivals
  pub slacks : AreSlacks analysis.period.top analysis.period.bottom system.rules forks analysis.slacks
