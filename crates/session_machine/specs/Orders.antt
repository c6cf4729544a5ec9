-- Orders of shared calls, and the list of all calls along one. Sessions have the numbers from 1 on.
use Rattle.std.specs.Prelude.{◌≡◌, ℕ, ◌+◌, Bool, ◌==◌, if◌then◌else◌, List, [], ◌∷◌, ◌++◌, length, map, filter}

-- how often a number stands in a list
abbrev pub times : ℕ → List ℕ → ℕ
times number order = length (filter (λ k. k == number) order)

-- the function with another value at one number
abbrev pub put : {A : Type 0} → ℕ → A → (ℕ → A) → ℕ → A
put number value f k = if k == number then value else f k

-- the script of a session, where the first of the scripts is that of session n; no session that there is not has a call
abbrev pub script_from : {C : Type 0} → ℕ → List (List C) → ℕ → List C
script_from n [] session = []
script_from n (script ∷ scripts) session = if session == n then script else script_from (n + 1) scripts session

-- the script of a session
abbrev pub script_of : {C : Type 0} → List (List C) → ℕ → List C
script_of scripts session = script_from 1 scripts session

-- these calls, each with the number of the session that makes it
abbrev pub of_session : {C : Type 0} → ℕ → List C → List (ℕ × C)
of_session session calls = map (λ call. (session, call)) calls

-- the calls of one session
abbrev pub calls_of : {C : Type 0} → ℕ → List (ℕ × C) → List C
calls_of session calls = map (λ x. x.1) (filter (λ x. x.0 == session) calls)

module _ {C : Type 0} (shared : C → Bool) where
  -- how many calls of a script take a place in the order
  abbrev pub shared_calls : List C → ℕ
  shared_calls script = length (filter shared script)

  -- the local calls at the front of a script
  abbrev pub locals : List C → List C
  locals [] = []
  locals (call ∷ calls) = if shared call then [] else call ∷ locals calls

  -- what follows them, a shared call first
  abbrev pub past_locals : List C → List C
  past_locals [] = []
  past_locals (call ∷ calls) = if shared call then call ∷ calls else past_locals calls

  -- the first call, and the local calls directly behind it
  abbrev pub first_turn : List C → List C
  first_turn [] = []
  first_turn (call ∷ calls) = call ∷ locals calls

  -- what follows them
  abbrev pub past_turn : List C → List C
  past_turn [] = []
  past_turn (call ∷ calls) = past_locals calls

  -- each session has its number as often as its script has shared calls
  abbrev pub IsOrder : List (List C) → List ℕ → Type 0
  IsOrder scripts order = (session : ℕ) → times session order ≡ shared_calls (script_of scripts session)

  -- the local calls with no shared call before them, by session number
  abbrev pub fronts : ℕ → List (List C) → List (ℕ × C)
  fronts n [] = []
  fronts n (script ∷ scripts) = of_session n (locals script) ++ fronts (n + 1) scripts

  -- each shared call at its place, with the local calls directly behind it, where each session has this much of its script left
  abbrev pub turns : (ℕ → List C) → List ℕ → List (ℕ × C)
  turns left [] = []
  turns left (session ∷ order) = of_session session (first_turn (left session)) ++ turns (put session (past_turn (left session)) left) order

  -- all calls of all scripts along an order
  abbrev pub spread : List (List C) → List ℕ → List (ℕ × C)
  spread scripts order = fronts 1 scripts ++ turns (λ session. past_locals (script_of scripts session)) order
