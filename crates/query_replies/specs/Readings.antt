-- What sessions are told of the analysis of a netlist.
use Rattle.std.specs.Prelude.{◌-◌, ℕ, ℤ, List, [], ◌∷◌, length, map, Option, Some, None, Result, Ok, Err}
use Rattle.cell_arcs.specs.declared.cells.Cell.{Cell}
use Rattle.netlist_model.specs.Circuit.{Circuit}
use Rattle.netlist_model.specs.EventNames.{name_at, event_name}
use Rattle.netlist_model.specs.declared.faults.WholeFault.{WholeFault}
use Rattle.netlist_model.specs.declared.faults.WholeFault.TheVariants as whole
use Rattle.rule_system.specs.Rules.{source_of, delay_sum, offset_sum}
use Rattle.rule_system.specs.Weights.{time_of}
use Rattle.rule_system.specs.declared.rules.Rule.{Rule}
use Rattle.event_expand.specs.Systems.{system_of}
use Rattle.analysis.specs.declared.analyses.Analysis.{Analysis}
use Rattle.netlist_analysis.specs.Findings.{Finding, IsTelling}
use Rattle.netlist_analysis.specs.declared.faults.NetlistFault.{NetlistFault}
use Rattle.netlist_analysis.specs.declared.faults.NetlistFault.TheVariants as net
use Rattle.report_writer.specs.Report.{report_text}
use Rattle.session_machine.specs.Table.{Readings}
use Rattle.session_machine.specs.declared.replies.Reply.{Reply}
use Rattle.session_machine.specs.declared.replies.Reply.TheVariants.{Period, Cycle, Arrival, Slack, Report, Refused}
use Rattle.session_machine.specs.declared.replies.Refusal.{Refusal}
use Rattle.session_machine.specs.declared.replies.Refusal.TheVariants.{NotPinned, Undriven, NoRoot, IdleTick, TooManyRules, Unreached, NoReturn, Dead}
use Rattle.pinned_reader.specs.Rows.{RowState}

-- the name of the first of these events
abbrev pub first_name : List (List ℕ) → List ℕ → List ℕ
first_name nets [] = []
first_name nets (event ∷ events) = event_name nets event

-- why a netlist that is not whole is no version's: a net is told by its name, a tick by its position
abbrev pub whole_refusal : List (List ℕ) → WholeFault → Refusal
whole_refusal nets (whole.Undriven position) = Undriven (name_at nets (position - 1))
whole_refusal nets whole.NoRoot = NoRoot
whole_refusal nets (whole.IdleTick position) = IdleTick position
whole_refusal nets (whole.TooManyRules count) = TooManyRules count

-- why a netlist with a fault is no version's: events are told by their names, a dead cycle by its length and its first event;
-- want of memory is no finding
abbrev pub net_refusal : List (List ℕ) → NetlistFault → Refusal
net_refusal nets (net.Whole fault) = whole_refusal nets fault
net_refusal nets (net.Unreached event) = Unreached (event_name nets event)
net_refusal nets (net.NoReturn event) = NoReturn (event_name nets event)
net_refusal nets (net.Dead events) = Dead (length events) (first_name nets events)
net_refusal nets net.Memory = NotPinned

-- the refusal of a netlist of which this was found, if it is refused
abbrev pub refusal_in : List (List ℕ) → Finding → Option Refusal
refusal_in nets (Ok analysis) = None
refusal_in nets (Err fault) = Some (net_refusal nets fault)

-- the reply read of an analysis; of a netlist that has none nothing is read
abbrev pub read_of : (Analysis → Reply) → Finding → Reply
read_of reply (Ok analysis) = reply analysis
read_of reply (Err fault) = Refused NotPinned

-- how many rules the cycle has, the sums of their delays and offsets, and its first event
abbrev pub cycle_reply : List (List ℕ) → List Rule → List ℕ → Reply
cycle_reply nets rules cycle =
    Cycle (length cycle) (delay_sum rules cycle) (offset_sum rules cycle) (first_name nets (map (source_of rules) cycle))

-- the reply that tells a number, or that there is none
abbrev pub told_or : Refusal → (ℤ → Reply) → Option ℤ → Reply
told_or missing reply None = Refused missing
told_or missing reply (Some number) = reply number

-- what is read where this is found of each netlist: the period, the critical cycle, the report, an arrival and a slack
abbrev pub readings : List Cell → (Circuit → Finding) → Readings
readings library tell = record {
  refusal = λ c. refusal_in c.nets (tell c);
  period = λ c. read_of (λ a. Period a.period) (tell c);
  cycle = λ c. read_of (λ a. cycle_reply c.nets (system_of library c).rules a.cycle) (tell c);
  report = λ c. read_of (λ a. Report (report_text c (system_of library c) a)) (tell c);
  arrival = λ c event. read_of (λ a. Arrival (time_of a.arrivals event) a.period.bottom) (tell c);
  slack = λ c fork. read_of (λ a. Slack (time_of a.slacks fork) a.period.bottom) (tell c);
}

-- a library, and what the analysis of each netlist over it finds
pub record Analyses : Type 0 where
  pub library : List Cell
  pub tell : Circuit → Finding
  pub right : IsTelling library tell

-- what is read of them
abbrev pub readings_in : Analyses → Readings
readings_in all = readings all.library all.tell

-- what is read where nothing but the analysis of this row is known
abbrev pub row_readings : RowState → Readings
row_readings row = readings row.library (λ c. Ok row.analysis)
