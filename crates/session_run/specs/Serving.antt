-- What a session has done in its turns.
use Rattle.std.specs.Prelude.{◌≡◌, ℕ, ◌+◌, List, [], ◌++◌, length}
use Rattle.turn_book.specs.Views.{own}
use Rattle.version_store.specs.Halls.{Chain, rows_of}
use Rattle.session_script.specs.Calls.{is_shared}
use Rattle.session_script.specs.declared.calls.Call.{Call}
use Rattle.session_machine.specs.Machine.{given_by, replies_of}
use Rattle.session_machine.specs.Alone.{places_of, given_at, views}
use Rattle.session_machine.specs.Alone as alone
use Rattle.session_machine.specs.Orders.{shared_calls}
use Rattle.session_machine.specs.Table.{Holding, fresh}
use Rattle.session_machine.specs.Versions.{Version}
use Rattle.session_machine.specs.declared.replies.Reply.{Reply}
use Rattle.pinned_reader.specs.Rows.{RowState, IsAfter}
use Rattle.query_replies.specs.Readings.{Analyses}
use Rattle.session_calls.specs.States.{SessionState, holding_of, IsOver}
use Rattle.session_run.specs.Items.{Item, session_of, acts_in, places_in, positions}
use Rattle.session_run.specs.Going.{Told, machine_at, IsGoing}
use Rattle.session_run.specs.Acts.{acts_from}
use Rattle.session_run.specs.Seats.{SeatView}

-- each row of what the seat has seen follows the row before it
abbrev pub Follow : RowState → SeatView → Type 0
Follow base v = Chain IsAfter base (rows_of v.seen)

-- whatever comes, what the session's calls note alone is what was noted of the items made, and then what the rest notes alone
abbrev pub IsActing : Analyses → RowState → ℕ → List Call → List Item → List Item → List Version → Holding → List Call → Type 0
IsActing all base n script seen made now has rest =
    (later : List (List Version)) → acts_from all base [] fresh (views n [] (places_in seen) ++ later) script ≡ acts_in made ++ acts_from all base now has later rest

-- with this much of the script left, these are the replies and the places of the entries so far
pub record IsServing (all : Analyses) (base : RowState) (n : ℕ) (script : List Call) (v : SeatView) (s : SessionState) (replies : List Reply) (places : List ℕ) (rest : List Call) : Type 0 where
  pub told : Told
  pub going : IsGoing all base n script v.seen s told rest
  pub acting : IsActing all base n script v.seen v.made going.now (holding_of s) rest
  pub over : IsOver all s
  pub number : s.number ≡ n
  pub mine : own session_of n v.seen ≡ v.made
  pub left : v.left ≡ shared_calls is_shared rest
  pub count : length v.made + shared_calls is_shared rest ≡ shared_calls is_shared script
  pub replies_are : replies ≡ replies_of told
  pub places_are : places ≡ positions n 0 v.seen

-- the script is done: over what the seat has seen the replies, what was published and what its entries note are those of the session
-- alone, and the places are those of its entries
pub record HasServed (all : Analyses) (base : RowState) (n : ℕ) (script : List Call) (v : SeatView) (replies : List Reply) (places : List ℕ) : Type 0 where
  pub replies_are : replies ≡ replies_of (alone.own (machine_at all base) (places_in v.seen) n script)
  pub given : given_at (places_of n (places_in v.seen)) ≡ given_by is_shared (alone.own (machine_at all base) (places_in v.seen) n script)
  pub acts : acts_in v.made ≡ acts_from all base [] fresh (views n [] (places_in v.seen)) script
  pub mine : own session_of n v.seen ≡ v.made
  pub all_made : v.left ≡ 0
  pub count : length v.made ≡ shared_calls is_shared script
  pub places_are : places ≡ positions n 0 v.seen
