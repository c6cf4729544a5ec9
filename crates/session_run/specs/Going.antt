-- A session on its way through its script.
use Rattle.std.specs.Prelude.{◌≡◌, ℕ, List, [], ◌∷◌, ◌++◌}
use Rattle.netlist_model.specs.Circuit.{Circuit}
use Rattle.session_script.specs.Calls.{is_shared}
use Rattle.session_script.specs.declared.calls.Call.{Call}
use Rattle.session_machine.specs.Machine.{Machine, Event, given_by}
use Rattle.session_machine.specs.Alone.{places_of, given_at, views, own_from}
use Rattle.session_machine.specs.Sessions.{sessions}
use Rattle.session_machine.specs.Table.{Holding, fresh, pinned}
use Rattle.session_machine.specs.Versions.{Version, netlists}
use Rattle.session_machine.specs.declared.replies.Reply.{Reply}
use Rattle.version_store.specs.Halls.{rows_of}
use Rattle.pinned_reader.specs.Rows.{RowState}
use Rattle.query_replies.specs.Readings.{Analyses, readings_in}
use Rattle.query_replies.specs.Served.{base_of}
use Rattle.session_calls.specs.States.{SessionState, holding_of, net_of, Knows}
use Rattle.session_run.specs.Items.{Item, places_in}

-- the calls that a session made, with their replies and what they published
abbrev pub Told : Type 0
Told = List (Event Call Reply Version)

-- the rows of a list of items, the base first
abbrev pub rows_at : RowState → List Item → List RowState
rows_at base items = base ∷ rows_of items

module _ (all : Analyses) (base : RowState) where
  -- the machine of sessions over the base
  abbrev pub machine_at : Machine Call Reply Holding Version
  machine_at = sessions (readings_in all) (base_of all.library base.netlist)

  -- the netlists of the base and of versions
  abbrev pub nets_at : List Version → List Circuit
  nets_at versions = netlists all.library base.netlist versions

  -- the session has made the calls told, and this much of its script is left, where it has seen these items
  pub record IsGoing (n : ℕ) (script : List Call) (seen : List Item) (s : SessionState) (told : Told) (rest : List Call) : Type 0 where
    -- the versions after its last shared call
    pub now : List Version
    -- whatever comes, its calls alone are those made, and then the rest alone
    pub goes : (later : List (List Version)) → own_from machine_at n [] fresh (views n [] (places_in seen) ++ later) script ≡ told ++ own_from machine_at n now (holding_of s) later rest
    -- its pin is what it holds, then and now
    pub holds : pinned (nets_at now) (holding_of s) ≡ net_of s
    pub knows : Knows (rows_at base seen) s
    -- it has published just what it would alone
    pub given : given_at (places_of n (places_in seen)) ≡ given_by is_shared told
