-- What a report asks of its analysis.
use Rattle.std.specs.Prelude.{◌≡◌, ℕ, List, length}
use Rattle.fork_slack.specs.declared.slacks.ForkOf.{ForkOf}
use Rattle.rule_system.specs.Bounds.{EventRules}
use Rattle.analysis.specs.Analysis.{IsAnalysis}
use Rattle.analysis.specs.declared.analyses.Analysis.{Analysis}

-- it is right for the system, from some root and with so many forks
pub record IsRightFor (system : EventRules) (forks : ℕ) (analysis : Analysis) : Type 0 where
  pub root : ℕ
  pub all : List ForkOf
  pub count : length all ≡ forks
  pub right : IsAnalysis system root all analysis
