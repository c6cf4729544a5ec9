-- Sessions that play in turn.
use Rattle.std.specs.Prelude.{◌≡◌, ℕ, ◌+◌, ◌<◌, ◌≤◌, List, [], ◌∷◌, length, drop, get_or}
use Rattle.std.specs.List.{AllByRecursion as Every}
use Rattle.version_store.specs.declared.state.HallState.{HallState}
use Rattle.session_script.specs.Calls.{is_shared}
use Rattle.session_script.specs.declared.calls.Call.{Call}
use Rattle.session_machine.specs.Orders.{shared_calls}
use Rattle.pinned_reader.specs.Rows.{RowState}
use Rattle.query_replies.specs.Readings.{Analyses}
use Rattle.session_run.specs.declared.players.Player.{Player}
use Rattle.session_run.specs.Items.{Item, session_of}
use Rattle.session_run.specs.Playing.{IsPlaying}

-- how many shared calls the scripts have
abbrev pub calls_of : List (List Call) → ℕ
calls_of [] = 0
calls_of (script ∷ scripts) = shared_calls is_shared script + calls_of scripts

-- the player at k has so many calls behind it
abbrev pub Sits : Analyses → RowState → List Item → ℕ → ℕ → List Call → Player → Type 0
Sits all base items at k script p = IsPlaying all base items (k + 1) script p.session p.replies.items (drop at script)

-- the players before i have made call `at`, and the others not yet
pub record AreSeated (all : Analyses) (base : RowState) (items : List Item) (scripts : List (List Call)) (players : List Player) (i at : ℕ) : Type 0 where
  pub many : length players ≡ length scripts
  pub before : (k : ℕ) (x : List Call) (p : Player) → k < i → Sits all base items (at + 1) k (get_or scripts k x) (get_or players k p)
  pub behind : (k : ℕ) (x : List Call) (p : Player) → i ≤ k → k < length scripts → Sits all base items at k (get_or scripts k x) (get_or players k p)
  pub within : Every (λ e. (1 ≤ session_of e) × (session_of e ≤ length scripts)) items

-- and so for all analyses that are known of the hall's library, before the first of them makes call `at`
abbrev pub AreReady : HallState RowState → List (List Call) → List Player → ℕ → Type 0
AreReady h scripts players at = (all : Analyses) → h.base.library ≡ all.library → AreSeated all h.base h.items scripts players 0 at

-- there are analyses of a row's library
abbrev pub AreKnown : RowState → Type 0
AreKnown base = (all : Analyses) × (base.library ≡ all.library)
