-- One session alone, over the places of all sessions.
use Rattle.std.specs.Prelude.{◌≡◌, ℕ, ◌+◌, ◌==◌, if◌then◌else◌, List, [], ◌∷◌, length, map, filter, Option}
use Rattle.session_machine.specs.Orders.{script_of, shared_calls}
use Rattle.session_machine.specs.Machine.{Machine, Event, more, event, replies_of, given_by}

-- a place of an order: the session that made the call there, and the version that it published, if any
pub record Place (V : Type 0) : Type 0 where
  pub session : ℕ
  pub gives : Option V

module _ {V : Type 0} where
  -- the session numbers of places
  abbrev pub order_of : List (Place V) → List ℕ
  order_of places = map (λ p. p.session) places

  -- the places of one session
  abbrev pub places_of : ℕ → List (Place V) → List (Place V)
  places_of session places = filter (λ p. p.session == session) places

  -- what was published at each place, if anything
  abbrev pub given_at : List (Place V) → List (Option V)
  given_at places = map (λ p. p.gives) places

  -- the versions that stand before each place of a session, where these stand before the first place
  abbrev pub views : ℕ → List V → List (Place V) → List (List V)
  views session versions [] = []
  views session versions (p ∷ places) =
      if p.session == session
      then versions ∷ views session (more versions p.gives) places
      else views session (more versions p.gives) places

module _ {C R S V : Type 0} (machine : Machine C R S V) where
  -- the calls of one session that has so much, in turn: each shared call over the next of the views, each local call over
  -- the versions that stood after the shared call before it; with no view left it stops
  abbrev pub own_from : ℕ → List V → S → List (List V) → List C → List (Event C R V)
  own_from session now has seen [] = []
  own_from session now has [] (call ∷ calls) =
      if machine.shared call then []
      else (let step = machine.step now has call in event session call step ∷ own_from session now step.has [] calls)
  own_from session now has (view ∷ seen) (call ∷ calls) =
      if machine.shared call
      then (let step = machine.step view has call in event session call step ∷ own_from session (more view step.gives) step.has seen calls)
      else (let step = machine.step now has call in event session call step ∷ own_from session now step.has (view ∷ seen) calls)

  -- what a session does alone over these places
  abbrev pub own : List (Place V) → ℕ → List C → List (Event C R V)
  own places session script = own_from session [] machine.fresh (views session [] places) script

  -- the session has a place for each of its shared calls
  abbrev pub HasPlaces : List (Place V) → ℕ → List C → Type 0
  HasPlaces places session script = length (places_of session places) ≡ shared_calls machine.shared script

  -- at the session's places just that is published which it publishes there alone
  abbrev pub Agrees : List (Place V) → List (List C) → ℕ → Type 0
  Agrees places scripts session = given_at (places_of session places) ≡ given_by machine.shared (own places session (script_of scripts session))

  -- the replies of each session alone, where the first of the scripts is that of session n
  abbrev pub all_own : List (Place V) → ℕ → List (List C) → List (List R)
  all_own places n [] = []
  all_own places n (script ∷ scripts) = replies_of (own places n script) ∷ all_own places (n + 1) scripts
