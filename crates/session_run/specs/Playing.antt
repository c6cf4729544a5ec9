-- A session that plays over a hall that one thread has.
use Rattle.std.specs.Prelude.{◌≡◌, ℕ, ◌+◌, Bool, true, false, List, ◌++◌, length, Option, option_map}
use Rattle.std.specs.List.{AllByRecursion as Every}
use Rattle.turn_book.specs.Views.{own}
use Rattle.version_store.specs.declared.entry.HallAct.{HallAct}
use Rattle.version_store.specs.declared.state.HallState.{HallState}
use Rattle.version_store.specs.Halls.{Chain, noted, rows_of}
use Rattle.session_script.specs.Calls.{is_shared}
use Rattle.session_script.specs.declared.calls.Call.{Call}
use Rattle.session_machine.specs.Machine.{replies_of}
use Rattle.session_machine.specs.Orders.{shared_calls}
use Rattle.session_machine.specs.declared.replies.Reply.{Reply}
use Rattle.pinned_reader.specs.Rows.{RowState, IsAfter}
use Rattle.query_replies.specs.Readings.{Analyses}
use Rattle.session_calls.specs.States.{SessionState, holding_of, rows, act_on, local_by}
use Rattle.session_calls.specs.Turns.{Finishes}
use Rattle.session_run.specs.Items.{Item, session_of}
use Rattle.session_run.specs.Going.{Told, IsGoing}

-- with this much of the script left, these are the replies so far
pub record IsPlaying (all : Analyses) (base : RowState) (seen : List Item) (n : ℕ) (script : List Call) (s : SessionState) (replies : List Reply) (rest : List Call) : Type 0 where
  pub told : Told
  pub going : IsGoing all base n script seen s told rest
  pub number : s.number ≡ n
  pub replies_are : replies ≡ replies_of told
  pub count : length (own session_of n seen) + shared_calls is_shared rest ≡ shared_calls is_shared script

-- what one call of a session does to the hall: it adds items of that session alone
pub record Plays (h k : HallState RowState) (number : ℕ) : Type 0 where
  pub base : k.base ≡ h.base
  pub kept : length k.items + k.room ≡ length h.items + h.room
  pub new : List Item
  pub items : k.items ≡ h.items ++ new
  pub mine : Every (λ e. session_of e ≡ number) new

-- a shared call: the hall has one entry more, with a row just where the machine publishes, and the session is the machine's
pub record DidShared (all : Analyses) (h k : HallState RowState) (s t : SessionState) (c : Call) (r : Reply) : Type 0 where
  pub act : HallAct
  pub row : Option RowState
  pub entry : k ≡ noted h s.number act row
  pub gives : option_map (λ r. r.edits) row ≡ (act_on all (rows h) s c).gives
  pub ends : Finishes s t (act_on all (rows h) s c) (rows k) r
  pub chain : Chain IsAfter k.base (rows_of k.items)

-- a local call: the hall is as it was
pub record DidLocal (all : Analyses) (h k : HallState RowState) (s t : SessionState) (c : Call) (r : Reply) : Type 0 where
  pub same : k ≡ h
  pub reply : r ≡ (local_by all s c).1
  pub has : holding_of t ≡ (local_by all s c).0
  pub pin : t.pin ≡ s.pin
  pub number : t.number ≡ s.number

abbrev pub Did : Bool → Analyses → HallState RowState → HallState RowState → SessionState → SessionState → Call → Reply → Type 0
Did true all h k s t c r = DidShared all h k s t c r
Did false all h k s t c r = DidLocal all h k s t c r
