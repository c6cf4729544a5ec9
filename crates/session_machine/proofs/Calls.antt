-- Which calls are made, and over which places.
use Rattle.std.proofs.Common.{◌≡◌, ◌≢◌, ℕ, suc, ◌+◌, true, false, cond, List, [], ◌∷◌, ◌++◌, map, length, ◌==◌, refl, sym, ap, ◌∙◌, subst, arith}
use Rattle.std.specs.List.{filter}
use Rattle.std.proofs.lemmas.List.{append-nil, map-append}
use Rattle.std.proofs.lemmas.List.Elements.{filter-append}
use Rattle.session_machine.specs.Orders.{put, times, script_from, script_of, of_session, calls_of, shared_calls, locals, past_locals, first_turn, past_turn, fronts, turns, spread, IsOrder}
use Rattle.session_machine.specs.Machine.{Machine, Event, State, more, events_of, calls_in, sessions_in, event, run, opening}
use Rattle.session_machine.specs.Alone.{Place, places_of, views, own_from}
use Rattle.session_machine.specs.Laws.{MakesEachCall, FollowsOrder, AloneMakesEachCall, LooksNoFurther}
use Rattle.session_machine.proofs.Puts.{same_number, other_number, by_number, put_same, put_other}
use Rattle.session_machine.proofs.Owns.{Starts, past_starts, locals_split, past_calls}
use Rattle.session_machine.proofs.Scripts.{script_here, script_there, none_before}

module _ {C : Type 0} where
  calls_append : (s : ℕ) (xs ys : List (ℕ × C)) → calls_of s (xs ++ ys) ≡ calls_of s xs ++ calls_of s ys
  calls_append s xs ys =
      ap (map (λ (x : ℕ × C). x.1)) (filter-append (λ (x : ℕ × C). x.0 == s) xs ys)
      ∙ map-append (λ (x : ℕ × C). x.1) (filter (λ (x : ℕ × C). x.0 == s) xs) (filter (λ (x : ℕ × C). x.0 == s) ys)

  calls_mine : (s : ℕ) (cs : List C) → calls_of s (of_session s cs) ≡ cs
  calls_mine s [] = refl
  calls_mine s (c ∷ cs) = rw (same_number s) (ap (λ l. c ∷ l) (calls_mine s cs))

  calls_other : (s t : ℕ) (cs : List C) → s ≢ t → calls_of s (of_session t cs) ≡ []
  calls_other s t [] h = refl
  calls_other s t (c ∷ cs) h = rw (other_number t s (λ e. h (sym e))) (calls_other s t cs h)

module _ {C R S V : Type 0} (machine : Machine C R S V) where
  -- the machine makes the calls that it is given
  run_calls : (s : ℕ) (state : State S V) (xs : List (ℕ × C)) → calls_in (events_of s (run machine state xs)) ≡ calls_of s xs
  run_calls s state [] = refl
  run_calls s state (x ∷ xs) =
      let step = machine.step state.versions (state.sessions x.0) x.1 in
      let next : State S V = record { versions = more state.versions step.gives; sessions = put x.0 step.has state.sessions } in
      elim (x.0 == s) as (λ b. calls_in (cond b (event x.0 x.1 step ∷ events_of s (run machine next xs)) (events_of s (run machine next xs)))
      ≡ map (λ (y : ℕ × C). y.1) (cond b (x ∷ filter (λ (y : ℕ × C). y.0 == s) xs) (filter (λ (y : ℕ × C). y.0 == s) xs))) [
        | true ↦ ap (λ l. x.1 ∷ l) (run_calls s next xs)
        | false ↦ run_calls s next xs
      ]

  turn_split : (cs : List C) → first_turn machine.shared cs ++ past_turn machine.shared cs ≡ cs
  turn_split [] = refl
  turn_split (c ∷ cs) = ap (λ l. c ∷ l) (sym (locals_split machine cs))

  turn_starts : (cs : List C) → Starts machine (past_turn machine.shared cs)
  turn_starts [] = tt
  turn_starts (c ∷ cs) = past_starts machine cs

  turn_counts : (n : ℕ) (cs : List C) → Starts machine cs → suc n ≡ shared_calls machine.shared cs → n ≡ shared_calls machine.shared (past_turn machine.shared cs)
  turn_counts n [] st h = absurd (omega arith)
  turn_counts n (c ∷ cs) st h =
      let one : shared_calls machine.shared (c ∷ cs) ≡ suc (shared_calls machine.shared cs) = ap (λ b. length (cond b (c ∷ filter machine.shared cs) (filter machine.shared cs))) st in
      let same = past_calls machine cs in
      omega arith

  none_left : (cs : List C) → Starts machine cs → shared_calls machine.shared cs ≡ 0 → [] ≡ cs
  none_left [] st h = refl
  none_left (c ∷ cs) st h =
      absurd (let one : shared_calls machine.shared (c ∷ cs) ≡ suc (shared_calls machine.shared cs) = ap (λ b. length (cond b (c ∷ filter machine.shared cs) (filter machine.shared cs))) st in omega arith)

  front_calls : (n : ℕ) (scripts : List (List C)) (s : ℕ) → calls_of s (fronts machine.shared n scripts) ≡ locals machine.shared (script_from n scripts s)
  front_calls n [] s = refl
  front_calls n (x ∷ xs) s =
      let mine = of_session n (locals machine.shared x) in
      let others = fronts machine.shared (n + 1) xs in
      let none : calls_of n others ≡ [] = front_calls (n + 1) xs n ∙ ap (locals machine.shared) (none_before (n + 1) n xs (omega arith)) in
      by_number n (λ s. calls_of s (mine ++ others) ≡ locals machine.shared (script_from n (x ∷ xs) s))
      (calls_append n mine others ∙ ((λ i. calls_mine n (locals machine.shared x) i ++ none i) ∙ (append-nil (locals machine.shared x) ∙ ap (locals machine.shared) (sym (script_here n x xs)))))
      (λ s h. calls_append s mine others ∙ ((λ i. calls_other s n (locals machine.shared x) h i ++ front_calls (n + 1) xs s i) ∙ ap (locals machine.shared) (sym (script_there n s x xs h))))
      s

  -- what each session has left behind one turn
  module _ (t : ℕ) (order : List ℕ) (left : ℕ → List C) (starts : (s : ℕ) → Starts machine (left s)) (counts : (s : ℕ) → times s (t ∷ order) ≡ shared_calls machine.shared (left s)) where
    abbrev past : List C
    past = past_turn machine.shared (left t)

    abbrev next_left : ℕ → List C
    next_left = put t past left

    here : next_left t ≡ past
    here = put_same t past left

    counted : suc (times t order) ≡ shared_calls machine.shared (left t)
    counted = ap (λ b. length (cond b (t ∷ filter (λ k. k == t) order) (filter (λ k. k == t) order))) (sym (same_number t)) ∙ counts t

    next_starts : (s : ℕ) → Starts machine (next_left s)
    next_starts = by_number t (λ s. Starts machine (next_left s))
        (subst (Starts machine) (sym here) (turn_starts (left t)))
        (λ s h. subst (Starts machine) (sym (put_other t s past left h)) (starts s))

    next_counts : (s : ℕ) → times s order ≡ shared_calls machine.shared (next_left s)
    next_counts = by_number t (λ s. times s order ≡ shared_calls machine.shared (next_left s))
        (turn_counts (times t order) (left t) (starts t) counted ∙ ap (shared_calls machine.shared) (sym here))
        (λ s h. ap (λ b. length (cond b (t ∷ filter (λ k. k == s) order) (filter (λ k. k == s) order))) (sym (other_number t s (λ e. h (sym e))))
        ∙ (counts s ∙ ap (shared_calls machine.shared) (sym (put_other t s past left h))))

  turn_calls : (order : List ℕ) (left : ℕ → List C) → ((s : ℕ) → Starts machine (left s)) → ((s : ℕ) → times s order ≡ shared_calls machine.shared (left s))
      → (s : ℕ) → calls_of s (turns machine.shared left order) ≡ left s
  turn_calls [] left starts counts s = none_left (left s) (starts s) (sym (counts s))
  turn_calls (t ∷ order) left starts counts s =
      let mine = of_session t (first_turn machine.shared (left t)) in
      let left2 = next_left t order left starts counts in
      let rest = turns machine.shared left2 order in
      let later : (s : ℕ) → calls_of s rest ≡ left2 s = turn_calls order left2 (next_starts t order left starts counts) (next_counts t order left starts counts) in
      by_number t (λ s. calls_of s (mine ++ rest) ≡ left s)
      (calls_append t mine rest ∙ ((λ i. calls_mine t (first_turn machine.shared (left t)) i ++ (later t ∙ here t order left starts counts) i) ∙ turn_split (left t)))
      (λ s h. calls_append s mine rest ∙ ((λ i. calls_other s t (first_turn machine.shared (left t)) h i ++ later s i) ∙ put_other t s (past_turn machine.shared (left t)) left h))
      s

  -- the sessions of the shared calls
  abbrev shared_in : List (ℕ × C) → List ℕ
  shared_in xs = map (λ x. x.0) (filter (λ x. machine.shared x.1) xs)

  run_shared : (state : State S V) (xs : List (ℕ × C)) → sessions_in (filter (λ (e : Event C R V). machine.shared e.call) (run machine state xs)) ≡ shared_in xs
  run_shared state [] = refl
  run_shared state (x ∷ xs) =
      let step = machine.step state.versions (state.sessions x.0) x.1 in
      let next : State S V = record { versions = more state.versions step.gives; sessions = put x.0 step.has state.sessions } in
      let told = filter (λ (e : Event C R V). machine.shared e.call) (run machine next xs) in
      let left = filter (λ (y : ℕ × C). machine.shared y.1) xs in
      elim (machine.shared x.1) as (λ b. sessions_in (cond b (event x.0 x.1 step ∷ told) told) ≡ map (λ (y : ℕ × C). y.0) (cond b (x ∷ left) left)) [
        | true ↦ ap (λ l. x.0 ∷ l) (run_shared next xs)
        | false ↦ run_shared next xs
      ]

  shared_append : (xs ys : List (ℕ × C)) → shared_in (xs ++ ys) ≡ shared_in xs ++ shared_in ys
  shared_append xs ys =
      ap (map (λ (x : ℕ × C). x.0)) (filter-append (λ (x : ℕ × C). machine.shared x.1) xs ys)
      ∙ map-append (λ (x : ℕ × C). x.0) (filter (λ (x : ℕ × C). machine.shared x.1) xs) (filter (λ (x : ℕ × C). machine.shared x.1) ys)

  locals_quiet : (s : ℕ) (cs : List C) → shared_in (of_session s (locals machine.shared cs)) ≡ []
  locals_quiet s [] = refl
  locals_quiet s (c ∷ cs) = elim (machine.shared c) as (λ b. machine.shared c ≡ b → shared_in (of_session s (cond b [] (c ∷ locals machine.shared cs))) ≡ []) [
    | true ↦ λ is. refl
    | false ↦ λ is. rw is (locals_quiet s cs)
  ] refl

  fronts_quiet : (n : ℕ) (scripts : List (List C)) → shared_in (fronts machine.shared n scripts) ≡ []
  fronts_quiet n [] = refl
  fronts_quiet n (x ∷ xs) =
      shared_append (of_session n (locals machine.shared x)) (fronts machine.shared (n + 1) xs)
      ∙ (λ i. locals_quiet n x i ++ fronts_quiet (n + 1) xs i)

  turn_shared : (s n : ℕ) (cs : List C) → Starts machine cs → suc n ≡ shared_calls machine.shared cs → shared_in (of_session s (first_turn machine.shared cs)) ≡ s ∷ []
  turn_shared s n [] st h = absurd (omega arith)
  turn_shared s n (c ∷ cs) st h = rw st (ap (λ l. s ∷ l) (locals_quiet s cs))

  turns_shared : (order : List ℕ) (left : ℕ → List C) → ((s : ℕ) → Starts machine (left s)) → ((s : ℕ) → times s order ≡ shared_calls machine.shared (left s))
      → shared_in (turns machine.shared left order) ≡ order
  turns_shared [] left starts counts = refl
  turns_shared (t ∷ order) left starts counts =
      let left2 = next_left t order left starts counts in
      shared_append (of_session t (first_turn machine.shared (left t))) (turns machine.shared left2 order)
      ∙ (λ i. turn_shared t (times t order) (left t) (starts t) (counted t order left starts counts) i
      ++ turns_shared order left2 (next_starts t order left starts counts) (next_counts t order left starts counts) i)

  spread_shared : (scripts : List (List C)) (order : List ℕ) → IsOrder machine.shared scripts order → shared_in (spread machine.shared scripts order) ≡ order
  spread_shared scripts order is =
      let left : ℕ → List C = λ k. past_locals machine.shared (script_of scripts k) in
      shared_append (fronts machine.shared 1 scripts) (turns machine.shared left order)
      ∙ (λ i. fronts_quiet 1 scripts i ++ turns_shared order left (λ k. past_starts machine (script_of scripts k)) (λ k. is k ∙ sym (past_calls machine (script_of scripts k))) i)

  spread_calls : (scripts : List (List C)) (order : List ℕ) → IsOrder machine.shared scripts order → (s : ℕ) → calls_of s (spread machine.shared scripts order) ≡ script_of scripts s
  spread_calls scripts order is s =
      let left : ℕ → List C = λ k. past_locals machine.shared (script_of scripts k) in
      calls_append s (fronts machine.shared 1 scripts) (turns machine.shared left order)
      ∙ ((λ i. front_calls 1 scripts s i ++ turn_calls order left (λ k. past_starts machine (script_of scripts k)) (λ k. is k ∙ sym (past_calls machine (script_of scripts k))) s i)
      ∙ sym (locals_split machine (script_of scripts s)))

  -- a session alone makes each call, where there is a view for each shared one
  own_calls : (s : ℕ) (now : List V) (has : S) (seen : List (List V)) (cs : List C) → length seen ≡ shared_calls machine.shared cs → calls_in (own_from machine s now has seen cs) ≡ cs
  own_calls s now has seen [] h = refl
  own_calls s now has [] (c ∷ cs) h =
      let local = machine.step now has c in
      elim (machine.shared c) as (λ b. 0 ≡ length (cond b (c ∷ filter machine.shared cs) (filter machine.shared cs)) → calls_in (cond b [] (event s c local ∷ own_from machine s now local.has [] cs)) ≡ c ∷ cs) [
        | true ↦ λ k. absurd (omega arith)
        | false ↦ λ k. ap (λ l. c ∷ l) (own_calls s now local.has [] cs k)
      ] h
  own_calls s now has (v ∷ vs) (c ∷ cs) h =
      let mine = machine.step v has c in
      let local = machine.step now has c in
      elim (machine.shared c) as (λ b. suc (length vs) ≡ length (cond b (c ∷ filter machine.shared cs) (filter machine.shared cs))
      → calls_in (cond b (event s c mine ∷ own_from machine s (more v mine.gives) mine.has vs cs) (event s c local ∷ own_from machine s now local.has (v ∷ vs) cs)) ≡ c ∷ cs) [
        | true ↦ λ k. ap (λ l. c ∷ l) (own_calls s (more v mine.gives) mine.has vs cs (omega arith))
        | false ↦ λ k. ap (λ l. c ∷ l) (own_calls s now local.has (v ∷ vs) cs k)
      ] h

module _ {V : Type 0} where
  views_counted : (s : ℕ) (versions : List V) (places : List (Place V)) → length (views s versions places) ≡ length (places_of s places)
  views_counted s versions [] = refl
  views_counted s versions (p ∷ ps) =
      let later = more versions p.gives in
      elim (p.session == s) as (λ b. length (cond b (versions ∷ views s later ps) (views s later ps)) ≡ length (cond b (p ∷ places_of s ps) (places_of s ps))) [
        | true ↦ ap suc (views_counted s later ps)
        | false ↦ views_counted s later ps
      ]

  views_none : (s : ℕ) (versions : List V) (places : List (Place V)) → places_of s places ≡ [] → views s versions places ≡ []
  views_none s versions [] h = refl
  views_none s versions (p ∷ ps) h =
      let later = more versions p.gives in
      elim (p.session == s) as (λ b. cond b (p ∷ places_of s ps) (places_of s ps) ≡ [] → cond b (versions ∷ views s later ps) (views s later ps) ≡ []) [
        | true ↦ λ k. absurd (cc)
        | false ↦ λ k. views_none s later ps k
      ] h

  views_same : (s : ℕ) (versions : List V) (places others : List (Place V)) → places_of s others ≡ [] → views s versions (places ++ others) ≡ views s versions places
  views_same s versions [] others h = views_none s versions others h
  views_same s versions (p ∷ ps) others h =
      let same = views_same s (more versions p.gives) ps others h in
      λ i. cond (p.session == s) (versions ∷ same i) (same i)

module _ {C R S V : Type 0} (machine : Machine C R S V) where
  pub each_call : MakesEachCall machine
  each_call scripts order is s = run_calls machine s (opening machine) (spread machine.shared scripts order) ∙ spread_calls machine scripts order is s

  pub order_followed : FollowsOrder machine
  order_followed scripts order is = run_shared machine (opening machine) (spread machine.shared scripts order) ∙ spread_shared machine scripts order is

  pub each_call_alone : AloneMakesEachCall machine
  each_call_alone places s script enough = own_calls machine s [] machine.fresh (views s [] places) script (views_counted s [] places ∙ enough)

  pub no_further : LooksNoFurther machine
  no_further places others s script none = ap (λ seen. own_from machine s [] machine.fresh seen script) (views_same s [] places others none)
