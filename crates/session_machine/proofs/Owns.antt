-- The calls of one session.
use Rattle.std.proofs.Common.{◌≡◌, ◌≢◌, ℕ, true, false, cond, List, [], ◌∷◌, ◌++◌, length, refl, sym, ap, ◌∙◌, arith}
use Rattle.std.specs.List.{filter}
use Rattle.std.proofs.lemmas.List.{append-nil}
use Rattle.session_machine.specs.Orders.{put, of_session, locals, past_locals, shared_calls}
use Rattle.session_machine.specs.Machine.{Machine, more, events_of, given_by, event, run}
use Rattle.session_machine.specs.Alone.{own_from}
use Rattle.session_machine.specs.Laws.{IsQuiet}
use Rattle.session_machine.proofs.Puts.{same_number, other_number, put_same, put_id, put_put}

module _ {C R S V : Type 0} (machine : Machine C R S V) where
  abbrev pub AreLocal : List C → Type 0
  AreLocal [] = Unit {0}
  AreLocal (c ∷ cs) = (machine.shared c ≡ false) × AreLocal cs

  abbrev pub Starts : List C → Type 0
  Starts [] = Unit {0}
  Starts (c ∷ cs) = machine.shared c ≡ true

  abbrev pub after_locals : List V → S → List C → S
  after_locals now has [] = has
  after_locals now has (c ∷ cs) = after_locals now (machine.step now has c).has cs

  pub locals_local : (cs : List C) → AreLocal (locals machine.shared cs)
  locals_local [] = tt
  locals_local (c ∷ cs) = elim (machine.shared c) as (λ b. machine.shared c ≡ b → AreLocal (cond b [] (c ∷ locals machine.shared cs))) [ true ↦ λ e. tt | false ↦ λ e. (e, locals_local cs) ] refl

  pub past_starts : (cs : List C) → Starts (past_locals machine.shared cs)
  past_starts [] = tt
  past_starts (c ∷ cs) = elim (machine.shared c) as (λ b. machine.shared c ≡ b → Starts (cond b (c ∷ cs) (past_locals machine.shared cs))) [ true ↦ λ e. e | false ↦ λ e. past_starts cs ] refl

  pub locals_split : (cs : List C) → cs ≡ locals machine.shared cs ++ past_locals machine.shared cs
  locals_split [] = refl
  locals_split (c ∷ cs) = elim (machine.shared c) as (λ b. c ∷ cs ≡ cond b [] (c ∷ locals machine.shared cs) ++ cond b (c ∷ cs) (past_locals machine.shared cs)) [ true ↦ refl | false ↦ ap (λ l. c ∷ l) (locals_split cs) ]

  pub past_calls : (cs : List C) → shared_calls machine.shared (past_locals machine.shared cs) ≡ shared_calls machine.shared cs
  past_calls [] = refl
  past_calls (c ∷ cs) = elim (machine.shared c) as (λ b. machine.shared c ≡ b → shared_calls machine.shared (cond b (c ∷ cs) (past_locals machine.shared cs)) ≡ length (cond b (c ∷ filter machine.shared cs) (filter machine.shared cs))) [
    | true ↦ λ e. ap (λ b. length (cond b (c ∷ filter machine.shared cs) (filter machine.shared cs))) e
    | false ↦ λ e. past_calls cs
  ] refl

  -- a session that starts with a machine.shared call, or has none, does not look at what stands now
  pub own_now : (s : ℕ) (now now2 : List V) (has : S) (seen : List (List V)) (cs : List C) → Starts cs → own_from machine s now has seen cs ≡ own_from machine s now2 has seen cs
  own_now s now now2 has seen [] st = refl
  own_now s now now2 has [] (c ∷ cs) st = rw st refl
  own_now s now now2 has (v ∷ vs) (c ∷ cs) st = rw st refl

  pub own_locals : (s : ℕ) (now : List V) (has : S) (seen : List (List V)) (ls rest : List C) → AreLocal ls → own_from machine s now has seen (ls ++ rest) ≡ own_from machine s now has [] ls ++ own_from machine s now (after_locals now has ls) seen rest
  own_locals s now has seen [] rest l = refl
  own_locals s now has [] (c ∷ ls) rest l = rw l.0 (ap (λ es. event s c (machine.step now has c) ∷ es) (own_locals s now (machine.step now has c).has [] ls rest l.1))
  own_locals s now has (v ∷ vs) (c ∷ ls) rest l = rw l.0 (ap (λ es. event s c (machine.step now has c) ∷ es) (own_locals s now (machine.step now has c).has (v ∷ vs) ls rest l.1))

  -- with no machine.shared call left there is nothing more
  pub own_none : (s : ℕ) (now : List V) (has : S) (seen : List (List V)) (cs : List C) → Starts cs → shared_calls machine.shared cs ≡ 0 → own_from machine s now has seen cs ≡ []
  own_none s now has seen [] st z = refl
  own_none s now has seen (c ∷ cs) st z = absurd (let k : length (cond true (c ∷ filter machine.shared cs) (filter machine.shared cs)) ≡ 0 = ap (λ b. length (cond b (c ∷ filter machine.shared cs) (filter machine.shared cs))) (sym st) ∙ z in omega arith)

  own_mine : (s : ℕ) (now : List V) (has : S) (seen : List (List V)) (cs : List C) → events_of s (own_from machine s now has seen cs) ≡ own_from machine s now has seen cs
  own_mine s now has seen [] = refl
  own_mine s now has [] (c ∷ cs) = elim (machine.shared c) as (λ b. events_of s (cond b [] (event s c (machine.step now has c) ∷ own_from machine s now (machine.step now has c).has [] cs)) ≡ cond b [] (event s c (machine.step now has c) ∷ own_from machine s now (machine.step now has c).has [] cs)) [
    | true ↦ refl
    | false ↦ rw (same_number s) (ap (λ es. event s c (machine.step now has c) ∷ es) (own_mine s now (machine.step now has c).has [] cs))
  ]
  own_mine s now has (v ∷ vs) (c ∷ cs) = let m = machine.step v has c in let l = machine.step now has c in
      elim (machine.shared c) as (λ b. events_of s (cond b (event s c m ∷ own_from machine s (more v m.gives) m.has vs cs) (event s c l ∷ own_from machine s now l.has (v ∷ vs) cs)) ≡ cond b (event s c m ∷ own_from machine s (more v m.gives) m.has vs cs) (event s c l ∷ own_from machine s now l.has (v ∷ vs) cs)) [
        | true ↦ rw (same_number s) (ap (λ es. event s c m ∷ es) (own_mine s (more v m.gives) m.has vs cs))
        | false ↦ rw (same_number s) (ap (λ es. event s c l ∷ es) (own_mine s now l.has (v ∷ vs) cs))
      ]

  -- the events of local calls are its own, and nobody else's, and publish nothing
  pub locals_mine : (s : ℕ) (now : List V) (has : S) (ls : List C) → events_of s (own_from machine s now has [] ls) ≡ own_from machine s now has [] ls
  locals_mine s now has ls = own_mine s now has [] ls

  pub locals_other : (s t : ℕ) (now : List V) (has : S) (ls : List C) → AreLocal ls → s ≢ t → events_of s (own_from machine t now has [] ls) ≡ []
  locals_other s t now has [] l n = refl
  locals_other s t now has (c ∷ ls) l n = rw (l.0, other_number t s (λ e. n (sym e))) (locals_other s t now (machine.step now has c).has ls l.1 n)

  pub locals_silent : (t : ℕ) (now : List V) (has : S) (ls : List C) → AreLocal ls → given_by machine.shared (own_from machine t now has [] ls) ≡ []
  locals_silent t now has [] l = refl
  locals_silent t now has (c ∷ ls) l = rw (l.0, l.0) (locals_silent t now (machine.step now has c).has ls l.1)

  module _ (quiet : IsQuiet machine) where
    -- the machine takes local calls of one session
    pub run_locals : (t : ℕ) (versions : List V) (sessions : ℕ → S) (ls : List C) (rest : List (ℕ × C)) → AreLocal ls
        → run machine (record { versions = versions; sessions = sessions }) (of_session t ls ++ rest)
        ≡ own_from machine t versions (sessions t) [] ls ++ run machine (record { versions = versions; sessions = put t (after_locals versions (sessions t) ls) sessions }) rest
    run_locals t versions sessions [] rest l = ap (λ f. run machine (record { versions = versions; sessions = f }) rest) (sym (put_id t sessions))
    run_locals t versions sessions (c ∷ ls) rest l =
        let m = machine.step versions (sessions t) c in
        let none : more versions m.gives ≡ versions = ap (more versions) (quiet versions (sessions t) c l.0) ∙ append-nil versions in
        let same : put t m.has sessions t ≡ m.has = put_same t m.has sessions in
        rw l.0 (ap (λ es. event t c m ∷ es) (
        ap (λ v. run machine (record { versions = v; sessions = put t m.has sessions }) (of_session t ls ++ rest)) none
        ∙ (run_locals t versions (put t m.has sessions) ls rest l.1
        ∙ (ap (λ x. own_from machine t versions x [] ls ++ run machine (record { versions = versions; sessions = put t (after_locals versions x ls) (put t m.has sessions) }) rest) same
        ∙ ap (λ f. own_from machine t versions m.has [] ls ++ run machine (record { versions = versions; sessions = f }) rest) (put_put t (after_locals versions m.has ls) m.has sessions)))))
