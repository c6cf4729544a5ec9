-- What the machine does by a local call is read of the pinned row.
use Rattle.std.proofs.Common.{◌≡◌, ℕ, Option, Some, None, Ok, refl, sym}
use Rattle.std.specs.Prelude.{MatchOption, ⊤, option_map}
use Rattle.netlist_model.specs.Circuit.{event_of, fork_of}
use Rattle.netlist_model.specs.Edits.{made}
use Rattle.rule_system.specs.Weights.{time_of}
use Rattle.event_expand.specs.Systems.{system_of}
use Rattle.analysis.specs.declared.analyses.Analysis.{Analysis}
use Rattle.report_writer.specs.Report.{report_text}
use Rattle.session_script.specs.declared.calls.Call.{Call}
use Rattle.session_script.specs.declared.calls.Call.TheVariants as call
use Rattle.session_machine.specs.Table.{Holding, local, edit_added, found}
use Rattle.session_machine.specs.Versions.{after}
use Rattle.session_machine.specs.declared.replies.Reply.TheVariants.{Period, Arrival, Slack, Report}
use Rattle.session_machine.specs.declared.replies.Refusal.TheVariants.{NoEvent, NoFork}
use Rattle.pinned_reader.specs.Rows.{RowState}
use Rattle.query_replies.specs.Readings.{Analyses, readings, readings_in, read_of, cycle_reply}
use Rattle.session_calls.specs.States.{SessionState, holding_of, library_at, finding_at, alone, IsOver, local_by}

by_pin : (all : Analyses) (pin : Option (ℕ × RowState)) (has : Holding) (c : Call) → MatchOption pin ⊤ (λ p. p.1.library ≡ all.library)
    → MatchOption pin ⊤ (λ p. all.tell p.1.netlist ≡ Ok p.1.analysis)
    → local all.library (readings_in all) (option_map (λ p. p.1.netlist) pin) has c
    ≡ local (library_at pin) (readings (library_at pin) (λ c. finding_at pin)) (option_map (λ p. p.1.netlist) pin) has c
by_pin all None has call.Pin over told = refl
by_pin all None has (call.PinAt n) over told = refl
by_pin all None has call.Rebase over told = refl
by_pin all None has call.Publish over told = refl
by_pin all None has (call.Make e) over told = refl
by_pin all None has call.Drop over told = refl
by_pin all None has call.Draft over told = refl
by_pin all None has call.Period over told = refl
by_pin all None has call.Cycle over told = refl
by_pin all None has (call.Arrival event) over told = refl
by_pin all None has (call.Slack fork) over told = refl
by_pin all None has call.Report over told = refl
by_pin all (Some p) has call.Pin over told = refl
by_pin all (Some p) has (call.PinAt n) over told = refl
by_pin all (Some p) has call.Rebase over told = refl
by_pin all (Some p) has call.Publish over told = refl
by_pin all (Some p) has (call.Make e) over told = λ i. edit_added has e (made (sym over i) (after (sym over i) p.1.netlist has.draft) e)
by_pin all (Some p) has call.Drop over told = refl
by_pin all (Some p) has call.Draft over told = refl
by_pin all (Some p) has call.Period over told = λ i. (has, read_of (λ (a : Analysis). Period a.period) (told i))
by_pin all (Some p) has call.Cycle over told = λ i. (has, read_of (λ (a : Analysis). cycle_reply p.1.netlist.nets (system_of (sym over i) p.1.netlist).rules a.cycle) (told i))
by_pin all (Some p) has (call.Arrival event) over told =
    λ i. (has, found NoEvent (λ n. read_of (λ (a : Analysis). Arrival (time_of a.arrivals n) a.period.bottom) (told i)) (event_of p.1.netlist.nets event))
by_pin all (Some p) has (call.Slack fork) over told =
    λ i. (has, found NoFork (λ n. read_of (λ (a : Analysis). Slack (time_of a.slacks n) a.period.bottom) (told i)) (fork_of p.1.netlist.forks fork))
by_pin all (Some p) has call.Report over told = λ i. (has, read_of (λ (a : Analysis). Report (report_text p.1.netlist (system_of (sym over i) p.1.netlist) a)) (told i))

pub local_alone : (all : Analyses) (s : SessionState) (c : Call) → IsOver all s → MatchOption s.pin ⊤ (λ p. all.tell p.1.netlist ≡ Ok p.1.analysis)
    → local_by all s c ≡ alone s c
local_alone all s c over told = by_pin all s.pin (holding_of s) c over told
