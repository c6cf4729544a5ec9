-- What the queries answer.
use Rattle.std.specs.Prelude.{ℕ, ℤ, List, Option, option_map}
use Rattle.netlist_model.specs.Circuit.{Circuit, event_of, fork_of}
use Rattle.netlist_model.specs.declared.parts.EventName.{EventName}
use Rattle.rule_system.specs.Weights.{time_of}
use Rattle.analysis.specs.declared.analyses.Analysis.{Analysis}
use Rattle.netlist_analysis.specs.Findings.{IsNetlistAnalysis}
use Rattle.pinned_reader.specs.Rows.{RowState}

-- this holds of the analysis of the row's netlist
pub record OfAnalysis (row : RowState) (holds : Analysis → Type 0) : Type 0 where
  pub analysis : Analysis
  pub right : IsNetlistAnalysis row.library row.netlist analysis
  pub held : holds analysis

-- the arrival of the event of a name, where the netlist has such an event
abbrev pub arrival_at : Circuit → Analysis → EventName → Option ℤ
arrival_at c analysis event = option_map (time_of analysis.arrivals) (event_of c.nets event)

-- the slack of the fork of a name, where the netlist has such a fork
abbrev pub slack_at : Circuit → Analysis → List ℕ → Option ℤ
slack_at c analysis fork = option_map (time_of analysis.slacks) (fork_of c.forks fork)
