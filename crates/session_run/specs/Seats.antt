-- A session's seat, and one turn of it.
use Rattle.std.specs.Prelude.{◌≡◌, ℕ, List, [], ◌∷◌, ◌++◌, length, Some, option_map}
use Rattle.turn_book.specs.declared.view.View.{View}
use Rattle.turn_book.specs.declared.view.Role.TheVariants.{Session}
use Rattle.turn_book.specs.declared.view.Stage.TheVariants.{Idle}
use Rattle.turn_book.specs.Views.{StartsWith, own, after_turn}
use Rattle.version_store.specs.declared.state.HallOrigin.{HallOrigin}
use Rattle.version_store.specs.Halls.{Chain, rows_of}
use Rattle.version_store.specs.Turns.{HasCalls}
use Rattle.session_script.specs.declared.calls.Call.{Call}
use Rattle.session_machine.specs.declared.replies.Reply.{Reply}
use Rattle.pinned_reader.specs.Rows.{RowState, IsAfter}
use Rattle.query_replies.specs.Readings.{Analyses}
use Rattle.session_calls.specs.States.{SessionState, holding_of, nets, Knows, act_on}
use Rattle.session_calls.specs.Turns.{Finishes}
use Rattle.session_run.specs.Items.{Item, session_of}
use Rattle.session_run.specs.Acts.{noted_by}
use Rattle.session_run.specs.Going.{rows_at}

-- what a book's hall was opened with
abbrev pub Origin : Type 0
Origin = HallOrigin RowState

abbrev pub SeatView : Type 0
SeatView = View Origin Item

-- a session's seat that holds no turn, in a book of no more turns than its hall has entries
pub record IsAtRest (v : SeatView) (number : ℕ) : Type 0 where
  pub role : v.role ≡ Session
  pub stage : v.stage ≡ Idle
  pub number_is : v.number ≡ number
  pub room : HasCalls v

-- the seat's book is over a hall that was opened so, and these analyses are of its library
pub record StartsFrom (all : Analyses) (v : SeatView) (o : Origin) : Type 0 where
  pub origin : v.origin ≡ Some o
  pub library : o.base.library ≡ all.library

-- there are analyses of the library of the seat's book
abbrev pub IsKnown : SeatView → Type 0
IsKnown v = (all : Analyses) × (o : Origin) × StartsFrom all v o

-- one turn of a seat, for this call
pub record TookTurn (all : Analyses) (o : Origin) (v w : SeatView) (s t : SessionState) (c : Call) (place : ℕ) (reply : Reply) : Type 0 where
  pub list : List Item
  pub entry : Item
  pub after : w ≡ after_turn v list entry
  pub begins : StartsWith list v.seen
  pub mine : own session_of v.number list ≡ v.made
  pub place_is : place ≡ length list
  pub session : session_of entry ≡ s.number
  pub act : entry.entry.act ≡ noted_by all (nets (rows_at o.base list)) (holding_of s) c
  pub gives : option_map (λ r. r.edits) entry.row ≡ (act_on all (rows_at o.base list) s c).gives
  pub ends : Finishes s t (act_on all (rows_at o.base list) s c) (rows_at o.base (list ++ entry ∷ [])) reply
  pub chain : Chain IsAfter o.base (rows_of (list ++ entry ∷ []))
  pub longer : Knows (rows_at o.base v.seen) s → Knows (rows_at o.base (list ++ entry ∷ [])) s
