-- What shared calls note in a hall.
use Rattle.std.specs.Prelude.{ℕ, if◌then◌else◌, List, [], ◌∷◌, Option, Some, None}
use Rattle.version_store.specs.declared.entry.HallAct.{HallAct}
use Rattle.version_store.specs.declared.entry.HallAct.TheVariants as hall
use Rattle.netlist_model.specs.Circuit.{Circuit}
use Rattle.session_script.specs.Calls.{is_shared}
use Rattle.session_script.specs.declared.calls.Call.{Call}
use Rattle.session_script.specs.declared.calls.Call.TheVariants as call
use Rattle.session_machine.specs.Machine.{more}
use Rattle.session_machine.specs.Table.{Holding, Act, blocked, pinned, act}
use Rattle.session_machine.specs.Versions.{Version}
use Rattle.session_machine.specs.declared.replies.Refusal.{Refusal}
use Rattle.pinned_reader.specs.Rows.{RowState}
use Rattle.query_replies.specs.Readings.{Analyses, readings_in}
use Rattle.session_run.specs.Going.{nets_at}

-- the number of a pin; a publish without one is refused before its turn
abbrev pub base_at : Option ℕ → ℕ
base_at None = 0
base_at (Some n) = n

-- what a call notes: a pass where it is refused before its turn, and else what its line wants; the local calls have no row
abbrev pub noted_at : Option Refusal → Option ℕ → Call → HallAct
noted_at (Some refusal) pin c = hall.Pass
noted_at None pin call.Pin = hall.Latest
noted_at None pin (call.PinAt n) = hall.At n
noted_at None pin call.Rebase = hall.Latest
noted_at None pin call.Publish = hall.Publish (base_at pin)
noted_at None pin (call.Make e) = hall.Pass
noted_at None pin call.Drop = hall.Pass
noted_at None pin call.Draft = hall.Pass
noted_at None pin call.Period = hall.Pass
noted_at None pin call.Cycle = hall.Pass
noted_at None pin (call.Arrival event) = hall.Pass
noted_at None pin (call.Slack fork) = hall.Pass
noted_at None pin call.Report = hall.Pass

-- and so over the netlists of all versions
abbrev pub noted_by : Analyses → List Circuit → Holding → Call → HallAct
noted_by all nets has c = noted_at (blocked all.library (readings_in all) (pinned nets has) has.draft c) has.pin c

module _ (all : Analyses) (base : RowState) where
  -- a call of a session alone, over versions
  abbrev pub step_over : List Version → Holding → Call → Act
  step_over versions has c = act all.library (readings_in all) (nets_at all base versions) has c

  -- what the shared calls of a session alone note, each over the next of the views
  abbrev pub acts_from : List Version → Holding → List (List Version) → List Call → List HallAct
  acts_from now has seen [] = []
  acts_from now has [] (c ∷ calls) = if is_shared c then [] else acts_from now (step_over now has c).has [] calls
  acts_from now has (view ∷ seen) (c ∷ calls) =
      if is_shared c
      then (let step = step_over view has c in noted_by all (nets_at all base view) has c ∷ acts_from (more view step.gives) step.has seen calls)
      else acts_from now (step_over now has c).has (view ∷ seen) calls
