-- A shared call in its three steps: what it wants of the hall, what it got there, and what the session has then.
use Rattle.std.specs.Prelude.{◌≡◌, ℕ, List, [], Option, Some, None, slice_get, option_map, ⊤}
use Rattle.std.specs.Arc.{arc_value}
use Rattle.version_store.specs.declared.entry.HallAct.{HallAct}
use Rattle.version_store.specs.declared.entry.HallAct.TheVariants as hall
use Rattle.version_store.specs.declared.state.HallState.{HallState}
use Rattle.version_store.specs.Halls.{noted}
use Rattle.netlist_model.specs.Edits.{edited}
use Rattle.session_script.specs.declared.calls.Call.{Call}
use Rattle.session_script.specs.declared.calls.Call.TheVariants as call
use Rattle.session_machine.specs.Table.{Act, blocked, only_replies, refuses, pinned_at, rebased, new_version}
use Rattle.session_machine.specs.declared.replies.Reply.{Reply}
use Rattle.session_machine.specs.declared.replies.Reply.TheVariants as reply
use Rattle.session_machine.specs.declared.replies.Refusal.{Refusal}
use Rattle.session_machine.specs.declared.replies.Refusal.TheVariants as refusal
use Rattle.pinned_reader.specs.Rows.{RowState, IsAfter}
use Rattle.query_replies.specs.Readings.{Analyses, readings_in}
use Rattle.session_calls.specs.declared.session.Ready.{Ready}
use Rattle.session_calls.specs.declared.session.Ready.TheVariants as ready
use Rattle.session_calls.specs.declared.session.Taken.{Taken}
use Rattle.session_calls.specs.declared.session.Taken.TheVariants as taken
use Rattle.session_calls.specs.States.{SessionState, holding_of, net_of, rows, Knows}

-- the first refusal that holds whatever the newest version is
abbrev pub stopped : Analyses → SessionState → Call → Option Refusal
stopped all s c = blocked all.library (readings_in all) (net_of s) s.draft c

-- the row follows the pinned row by the draft
pub record IsNext (s : SessionState) (row : RowState) : Type 0 where
  pub number : ℕ
  pub parent : RowState
  pub pin : s.pin ≡ Some (number, parent)
  pub edits : row.edits ≡ s.draft
  pub follows : IsAfter row parent

-- what the call wants of the hall: nothing where a refusal stands before its turn, which is told; else what its line says, and a publish
-- has two handles on the row that it would append
abbrev pub IsReady : Analyses → SessionState → Call → Ready → Type 0
IsReady all s c (ready.Pass r) = (f : Refusal) × (stopped all s c ≡ Some f) × (r ≡ reply.Refused f)
IsReady all s c ready.Latest = (c ≡ call.Pin) × (stopped all s c ≡ None)
IsReady all s c (ready.At n) = (c ≡ call.PinAt n) × (stopped all s c ≡ None)
IsReady all s c ready.Rebase = (c ≡ call.Rebase) × (stopped all s c ≡ None)
IsReady all s c (ready.Publish a b) =
    (c ≡ call.Publish) × (stopped all s c ≡ None) × (arc_value b ≡ arc_value a) × IsNext s (arc_value a)

-- two handles on this row
abbrev pub IsOf : RowState → Ready → Type 0
IsOf row (ready.Pass r) = ⊥
IsOf row ready.Latest = ⊥
IsOf row (ready.At n) = ⊥
IsOf row ready.Rebase = ⊥
IsOf row (ready.Publish a b) = (arc_value a ≡ row) × (arc_value b ≡ row)

-- the base of a publish
abbrev pub base_number : Option (ℕ × RowState) → ℕ
base_number None = 0
base_number (Some p) = p.0

-- what is noted in the hall
abbrev pub noted_act : SessionState → Ready → HallAct
noted_act s (ready.Pass r) = hall.Pass
noted_act s ready.Latest = hall.Latest
noted_act s (ready.At n) = hall.At n
noted_act s ready.Rebase = hall.Latest
noted_act s (ready.Publish a b) = hall.Publish (base_number s.pin)

-- what the machine does, by what was taken; after want of memory nothing is known
abbrev pub IsActOf : SessionState → Taken → Act → Type 0
IsActOf s (taken.Pass r) m = m ≡ only_replies (holding_of s) r
IsActOf s (taken.Pinned p) m = (m ≡ only_replies (pinned_at (holding_of s) p.number) (reply.Pinned p.number)) × (s.draft ≡ [])
IsActOf s (taken.NoVersion h) m = m ≡ refuses (holding_of s) (refusal.NoVersion h)
IsActOf s (taken.Rebase p) m =
    m ≡ rebased (holding_of s) p.number (edited (arc_value p.row).library s.draft (arc_value p.row).netlist)
IsActOf s (taken.Published n row) m = (m ≡ new_version (holding_of s) n) × IsNext s (arc_value row)
IsActOf s (taken.Stale h) m = m ≡ refuses (holding_of s) (refusal.Stale h)
IsActOf s taken.Full m = m ≡ refuses (holding_of s) refusal.Full
IsActOf s taken.Memory m = ⊤

-- a row that was taken stands at its number in these rows
abbrev pub StandsIn : List RowState → Taken → Type 0
StandsIn rows (taken.Pass r) = ⊤
StandsIn rows (taken.Pinned p) = slice_get rows p.number ≡ Some (arc_value p.row)
StandsIn rows (taken.NoVersion h) = ⊤
StandsIn rows (taken.Rebase p) = slice_get rows p.number ≡ Some (arc_value p.row)
StandsIn rows (taken.Published n row) = slice_get rows n ≡ Some (arc_value row)
StandsIn rows (taken.Stale h) = ⊤
StandsIn rows taken.Full = ⊤
StandsIn rows taken.Memory = ⊤

-- the act is known by what was taken, and a row that was taken stands in these rows
pub record IsTaken (s : SessionState) (m : Act) (rows : List RowState) (t : Taken) : Type 0 where
  pub act : IsActOf s t m
  pub stands : StandsIn rows t

-- the session after an act
pub record Finishes (s t : SessionState) (m : Act) (rows : List RowState) (r : Reply) : Type 0 where
  pub reply : r ≡ m.reply
  pub has : holding_of t ≡ m.has
  pub number : t.number ≡ s.number
  pub knows : Knows rows s → Knows rows t

-- one entry more, of what was wanted; it has a row just where the act publishes, with the edits that it publishes
pub record Entered (s : SessionState) (m : Act) (h k : HallState RowState) (wants : Ready) : Type 0 where
  pub row : Option RowState
  pub entry : k ≡ noted h s.number (noted_act s wants) row
  pub gives : option_map (λ r. r.edits) row ≡ m.gives

-- what a turn in the hall does
pub record Turned (s : SessionState) (m : Act) (h k : HallState RowState) (wants : Ready) (t : Taken) : Type 0 where
  pub taken : IsTaken s m (rows k) t
  pub entered : Entered s m h k wants
