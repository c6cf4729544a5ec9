-- A machine that takes the calls of sessions one at a time.
-- C: calls. R: replies. S: what a session has, as a pin and a draft. V: versions.
use Rattle.std.specs.Prelude.{ℕ, ◌+◌, Bool, ◌==◌, List, [], ◌∷◌, ◌++◌, map, filter, Option}
use Rattle.std.specs.List.{flat_map}
use Rattle.std.specs.Option.{option_to_list}
use Rattle.session_machine.specs.Orders.{put, spread}

-- what one call does: what its session has then, the reply, and the version that it publishes, if any
pub record Step (R S V : Type 0) : Type 0 where
  pub has : S
  pub reply : R
  pub gives : Option V

-- which calls take a place in the order, what a call does where these versions stand, and what a session has at first
pub record Machine (C R S V : Type 0) : Type 0 where
  pub shared : C → Bool
  pub step : List V → S → C → Step R S V
  pub fresh : S

-- the versions that were published so far, and what each session has
pub record State (S V : Type 0) : Type 0 where
  pub versions : List V
  pub sessions : ℕ → S

-- a call that was taken, with its reply and the version that it published, if any
pub record Event (C R V : Type 0) : Type 0 where
  pub session : ℕ
  pub call : C
  pub reply : R
  pub gives : Option V

-- the versions with one more, if one is published
abbrev pub more : {V : Type 0} → List V → Option V → List V
more versions gives = versions ++ option_to_list gives

module _ {C R V : Type 0} where
  -- the events of one session, in order
  abbrev pub events_of : ℕ → List (Event C R V) → List (Event C R V)
  events_of session events = filter (λ e. e.session == session) events

  -- the replies of events
  abbrev pub replies_of : List (Event C R V) → List R
  replies_of events = map (λ e. e.reply) events

  -- the calls of events
  abbrev pub calls_in : List (Event C R V) → List C
  calls_in events = map (λ e. e.call) events

  -- the session numbers of events
  abbrev pub sessions_in : List (Event C R V) → List ℕ
  sessions_in events = map (λ e. e.session) events

  -- the versions that events published, in order
  abbrev pub versions_in : List (Event C R V) → List V
  versions_in events = flat_map (λ e. option_to_list e.gives) events

  -- what each shared call published, if anything
  abbrev pub given_by : (C → Bool) → List (Event C R V) → List (Option V)
  given_by shared events = map (λ e. e.gives) (filter (λ e. shared e.call) events)

  -- the replies of each session, where the first of the scripts is that of session n
  abbrev pub all_replies : ℕ → List (List C) → List (Event C R V) → List (List R)
  all_replies n [] events = []
  all_replies n (script ∷ scripts) events = replies_of (events_of n events) ∷ all_replies (n + 1) scripts events

module _ {C R S V : Type 0} where
  -- a call that a session made, and what it did
  abbrev pub event : ℕ → C → Step R S V → Event C R V
  event session call step = record { session = session; call = call; reply = step.reply; gives = step.gives }

  -- the calls in turn
  abbrev pub run : Machine C R S V → State S V → List (ℕ × C) → List (Event C R V)
  run machine state [] = []
  run machine state (x ∷ calls) =
      let step = machine.step state.versions (state.sessions x.0) x.1 in
      event x.0 x.1 step ∷ run machine (record { versions = more state.versions step.gives; sessions = put x.0 step.has state.sessions }) calls

  -- no version is published yet, and no session has made a call
  abbrev pub opening : Machine C R S V → State S V
  opening machine = record { versions = []; sessions = λ session. machine.fresh }

  -- what the machine does along an order
  abbrev pub events : Machine C R S V → List (List C) → List ℕ → List (Event C R V)
  events machine scripts order = run machine (opening machine) (spread machine.shared scripts order)

  -- the replies of each session along an order
  abbrev pub replies : Machine C R S V → List (List C) → List ℕ → List (List R)
  replies machine scripts order = all_replies 1 scripts (events machine scripts order)

  -- the version that is published at each place of an order, if one is
  abbrev pub published : Machine C R S V → List (List C) → List ℕ → List (Option V)
  published machine scripts order = given_by machine.shared (events machine scripts order)
