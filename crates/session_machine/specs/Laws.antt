-- What holds of a machine of sessions.
use Rattle.std.specs.Prelude.{◌≡◌, ℕ, ◌≤◌, false, List, [], ◌++◌, length, filter, None}
use Rattle.session_machine.specs.Orders.{IsOrder, script_of}
use Rattle.session_machine.specs.Machine.{Machine, events_of, calls_in, sessions_in, events, replies, published}
use Rattle.session_machine.specs.Alone.{Place, order_of, places_of, given_at, own, HasPlaces, Agrees, all_own}

module _ {C R S V : Type 0} (machine : Machine C R S V) where
  -- a local call publishes nothing
  abbrev pub IsQuiet : Type 0
  IsQuiet = (versions : List V) (has : S) (call : C) → machine.shared call ≡ false → (machine.step versions has call).gives ≡ None

  -- along an order each session makes the calls of its script, each once and in their order
  abbrev pub MakesEachCall : Type 0
  MakesEachCall = (scripts : List (List C)) (order : List ℕ) → IsOrder machine.shared scripts order
      → (session : ℕ) → calls_in (events_of session (events machine scripts order)) ≡ script_of scripts session

  -- along an order the shared calls are made in that order
  abbrev pub FollowsOrder : Type 0
  FollowsOrder = (scripts : List (List C)) (order : List ℕ) → IsOrder machine.shared scripts order
      → sessions_in (filter (λ e. machine.shared e.call) (events machine scripts order)) ≡ order

  -- each call of its script, once and in their order, is also made by a session alone that has a place for each of its shared calls
  abbrev pub AloneMakesEachCall : Type 0
  AloneMakesEachCall = (places : List (Place V)) (session : ℕ) (script : List C) → HasPlaces machine places session script
      → calls_in (own machine places session script) ≡ script

  -- a session alone looks at no place behind its own last one
  abbrev pub LooksNoFurther : Type 0
  LooksNoFurther = (places more : List (Place V)) (session : ℕ) (script : List C) → places_of session more ≡ []
      → own machine (places ++ more) session script ≡ own machine places session script

  -- the machine's replies along an order are those of all sessions alone, and at each place just that is published which the
  -- machine publishes there, where at the places of each session just that is published which it publishes alone
  abbrev pub IsOneOrder : Type 0
  IsOneOrder = (scripts : List (List C)) (places : List (Place V)) → IsOrder machine.shared scripts (order_of places)
      → ((session : ℕ) → 1 ≤ session → session ≤ length scripts → Agrees machine places scripts session)
      → (replies machine scripts (order_of places) ≡ all_own machine places 1 scripts)
      × (published machine scripts (order_of places) ≡ given_at places)
