-- The machine along an order is what each session sees by itself.
use Rattle.std.proofs.Common.{◌≡◌, ◌≢◌, ℕ, suc, ◌+◌, ◌≤◌, true, cond, List, [], ◌∷◌, ◌++◌, map, length, ◌==◌, refl, sym, ap, ◌∙◌, subst, arith, append_assoc}
use Rattle.std.specs.List.{filter}
use Rattle.std.proofs.lemmas.List.{append-nil, map-append}
use Rattle.std.proofs.lemmas.List.Elements.{filter-append}
use Rattle.session_machine.specs.Orders.{put, times, of_session, locals, past_locals, first_turn, past_turn, shared_calls, script_from, fronts, turns, IsOrder}
use Rattle.session_machine.specs.Machine.{Machine, Step, Event, State, more, events_of, replies_of, given_by, event, run, events, all_replies, replies, published}
use Rattle.session_machine.specs.Alone.{Place, order_of, places_of, given_at, views, own_from, own, all_own}
use Rattle.session_machine.specs.Laws.{IsQuiet}
use Rattle.session_machine.proofs.Puts.{same_number, other_number, by_number, put_same, put_other, put_put}
use Rattle.session_machine.proofs.Scripts.{none_before, script_here, script_there}
use Rattle.session_machine.proofs.Owns.{Starts, after_locals, locals_local, past_starts, locals_split, past_calls, own_now, own_locals, own_none, locals_mine, locals_other, locals_silent, run_locals}

module _ {C R S V : Type 0} (machine : Machine C R S V) (quiet : IsQuiet machine) where
  abbrev at : List V → (ℕ → S) → State S V
  at versions sessions = record { versions = versions; sessions = sessions }

  abbrev sees : List V → (ℕ → S) → (ℕ → List C) → List (Place V) → ℕ → List (Event C R V)
  sees versions sessions left places s = own_from machine s versions (sessions s) (views s versions places) (left s)

  -- what is known where these places are still to come
  pub record Meets (versions : List V) (sessions : ℕ → S) (left : ℕ → List C) (places : List (Place V)) : Type 0 where
    pub starts : (s : ℕ) → Starts machine (left s)
    pub counts : (s : ℕ) → times s (order_of places) ≡ shared_calls machine.shared (left s)
    pub agree : (s : ℕ) → given_at (places_of s places) ≡ given_by machine.shared (sees versions sessions left places s)

  pub record Runs (versions : List V) (sessions : ℕ → S) (left : ℕ → List C) (places : List (Place V)) : Type 0 where
    pub each : (s : ℕ) → events_of s (run machine (at versions sessions) (turns machine.shared left (order_of places))) ≡ sees versions sessions left places s
    pub all : given_by machine.shared (run machine (at versions sessions) (turns machine.shared left (order_of places))) ≡ given_at places

  -- the head of the places is the next call of its session
  module _ (versions : List V) (sessions : ℕ → S) (left : ℕ → List C) (p : Place V) (ps : List (Place V)) (c : C) (cs : List C) (is : left p.session ≡ c ∷ cs) (meets : Meets versions sessions left (p ∷ ps)) where
    abbrev t : ℕ
    t = p.session

    abbrev m : Step R S V
    m = machine.step versions (sessions t) c

    abbrev next : List V
    next = more versions p.gives

    abbrev then_has : S
    then_has = after_locals machine next m.has (locals machine.shared cs)

    abbrev sessions2 : ℕ → S
    sessions2 = put t then_has sessions

    abbrev left2 : ℕ → List C
    left2 = put t (past_turn machine.shared (left t)) left

    is_shared : machine.shared c ≡ true
    is_shared = subst (Starts machine) is (meets.starts t)

    sees_first : sees versions sessions left (p ∷ ps) t ≡ event t c m ∷ own_from machine t (more versions m.gives) m.has (views t next ps) cs
    sees_first =
        ap (λ l. own_from machine t versions (sessions t) (views t versions (p ∷ ps)) l) is
        ∙ (ap (λ b. own_from machine t versions (sessions t) (cond b (versions ∷ views t next ps) (views t next ps)) (c ∷ cs)) (same_number t)
        ∙ ap (λ b. cond b (event t c m ∷ own_from machine t (more versions m.gives) m.has (views t next ps) cs) (event t c m ∷ own_from machine t versions m.has (versions ∷ views t next ps) cs)) is_shared)

    agree_first : p.gives ∷ given_at (places_of t ps) ≡ m.gives ∷ given_by machine.shared (own_from machine t (more versions m.gives) m.has (views t next ps) cs)
    agree_first =
        ap (λ b. given_at (cond b (p ∷ places_of t ps) (places_of t ps))) (sym (same_number t))
        ∙ (meets.agree t ∙ (ap (given_by machine.shared) sees_first
        ∙ ap (λ b. map (λ (e : Event C R V). e.gives) (cond b (event t c m ∷ filter (λ e. machine.shared e.call) (own_from machine t (more versions m.gives) m.has (views t next ps) cs)) (filter (λ e. machine.shared e.call) (own_from machine t (more versions m.gives) m.has (views t next ps) cs)))) is_shared))

    gives_is : m.gives ≡ p.gives
    gives_is = cc (agree_first)

    abbrev locs : List (Event C R V)
    locs = own_from machine t next m.has [] (locals machine.shared cs)

    next_is : more versions m.gives ≡ next
    next_is = ap (more versions) gives_is

    split : own_from machine t (more versions m.gives) m.has (views t next ps) cs ≡ locs ++ own_from machine t next then_has (views t next ps) (past_locals machine.shared cs)
    split =
        ap (λ v. own_from machine t v m.has (views t next ps) cs) next_is
        ∙ (ap (own_from machine t next m.has (views t next ps)) (locals_split machine cs)
        ∙ own_locals machine t next m.has (views t next ps) (locals machine.shared cs) (past_locals machine.shared cs) (locals_local machine cs))

    later : sees next sessions2 left2 ps t ≡ own_from machine t next then_has (views t next ps) (past_locals machine.shared cs)
    later =
        ap (λ x. own_from machine t next x (views t next ps) (left2 t)) (put_same t then_has sessions)
        ∙ ap (own_from machine t next then_has (views t next ps)) (put_same t (past_turn machine.shared (left t)) left ∙ ap (past_turn machine.shared) is)

    sees_is : sees versions sessions left (p ∷ ps) t ≡ event t c m ∷ (locs ++ sees next sessions2 left2 ps t)
    sees_is = sees_first ∙ ap (λ es. event t c m ∷ es) (split ∙ ap (λ es. locs ++ es) (sym later))

    run_is : run machine (at versions sessions) (turns machine.shared left (order_of (p ∷ ps))) ≡ event t c m ∷ (locs ++ run machine (at next sessions2) (turns machine.shared left2 (order_of ps)))
    run_is =
        let rest = turns machine.shared left2 (order_of ps) in
        let ls = locals machine.shared cs in
        ap (λ l. run machine (at versions sessions) (of_session t l ++ rest)) (ap (first_turn machine.shared) is)
        ∙ ap (λ es. event t c m ∷ es) (
        ap (λ v. run machine (at v (put t m.has sessions)) (of_session t ls ++ rest)) next_is
        ∙ (run_locals machine quiet t next (put t m.has sessions) ls rest (locals_local machine cs)
        ∙ (ap (λ x. own_from machine t next x [] ls ++ run machine (at next (put t (after_locals machine next x ls) (put t m.has sessions))) rest) (put_same t m.has sessions)
        ∙ ap (λ f. locs ++ run machine (at next f) rest) (put_put t then_has m.has sessions))))

    sees_other : (s : ℕ) → s ≢ t → sees versions sessions left (p ∷ ps) s ≡ sees next sessions2 left2 ps s
    sees_other s n =
        ap (λ b. own_from machine s versions (sessions s) (cond b (versions ∷ views s next ps) (views s next ps)) (left s)) (other_number t s (λ e. n (sym e)))
        ∙ (own_now machine s versions next (sessions s) (views s next ps) (left s) (meets.starts s)
        ∙ (ap (λ x. own_from machine s next x (views s next ps) (left s)) (sym (put_other t s then_has sessions n))
        ∙ ap (own_from machine s next (sessions2 s) (views s next ps)) (sym (put_other t s (past_turn machine.shared (left t)) left n))))

    given_after : (es : List (Event C R V)) → given_by machine.shared (locs ++ es) ≡ given_by machine.shared es
    given_after es =
        ap (map (λ (e : Event C R V). e.gives)) (filter-append (λ (e : Event C R V). machine.shared e.call) locs es)
        ∙ (map-append (λ (e : Event C R V). e.gives) (filter (λ (e : Event C R V). machine.shared e.call) locs) (filter (λ (e : Event C R V). machine.shared e.call) es)
        ∙ ap (λ l. l ++ given_by machine.shared es) (locals_silent machine t next m.has (locals machine.shared cs) (locals_local machine cs)))

    meets_next : Meets next sessions2 left2 ps
    meets_next = record {
      starts = by_number t (λ s. Starts machine (left2 s))
          (subst (Starts machine) (sym (put_same t (past_turn machine.shared (left t)) left ∙ ap (past_turn machine.shared) is)) (past_starts machine cs))
          (λ s n. subst (Starts machine) (sym (put_other t s (past_turn machine.shared (left t)) left n)) (meets.starts s));
      counts = by_number t (λ s. times s (order_of ps) ≡ shared_calls machine.shared (left2 s))
          (let a : suc (times t (order_of ps)) ≡ shared_calls machine.shared (c ∷ cs) = ap (λ b. length (cond b (t ∷ filter (λ k. k == t) (order_of ps)) (filter (λ k. k == t) (order_of ps)))) (sym (same_number t)) ∙ (meets.counts t ∙ ap (shared_calls machine.shared) is) in
          let b : shared_calls machine.shared (c ∷ cs) ≡ suc (shared_calls machine.shared cs) = ap (λ b. length (cond b (c ∷ filter machine.shared cs) (filter machine.shared cs))) is_shared in
          let d : shared_calls machine.shared (left2 t) ≡ shared_calls machine.shared cs = ap (shared_calls machine.shared) (put_same t (past_turn machine.shared (left t)) left ∙ ap (past_turn machine.shared) is) ∙ past_calls machine cs in
          omega arith)
          (λ s n. ap (λ b. length (cond b (t ∷ filter (λ k. k == s) (order_of ps)) (filter (λ k. k == s) (order_of ps)))) (sym (other_number t s (λ e. n (sym e)))) ∙ (meets.counts s ∙ ap (shared_calls machine.shared) (sym (put_other t s (past_turn machine.shared (left t)) left n))));
      agree = by_number t (λ s. given_at (places_of s ps) ≡ given_by machine.shared (sees next sessions2 left2 ps s))
          (let a : given_at (places_of t ps) ≡ given_by machine.shared (own_from machine t (more versions m.gives) m.has (views t next ps) cs) = cc (agree_first) in
          a ∙ (ap (given_by machine.shared) (split ∙ ap (λ es. locs ++ es) (sym later)) ∙ given_after (sees next sessions2 left2 ps t)))
          (λ s n. ap (λ b. given_at (cond b (p ∷ places_of s ps) (places_of s ps))) (sym (other_number t s (λ e. n (sym e)))) ∙ (meets.agree s ∙ ap (given_by machine.shared) (sees_other s n)));
    }

    runs_first : Runs next sessions2 left2 ps → Runs versions sessions left (p ∷ ps)
    runs_first r = record {
      each = by_number t (λ s. events_of s (run machine (at versions sessions) (turns machine.shared left (order_of (p ∷ ps)))) ≡ sees versions sessions left (p ∷ ps) s)
          (let tail = run machine (at next sessions2) (turns machine.shared left2 (order_of ps)) in
          ap (events_of t) run_is
          ∙ (ap (λ b. cond b (event t c m ∷ events_of t (locs ++ tail)) (events_of t (locs ++ tail))) (same_number t)
          ∙ (ap (λ es. event t c m ∷ es) (filter-append (λ (e : Event C R V). e.session == t) locs tail ∙ (λ i. locals_mine machine t next m.has (locals machine.shared cs) i ++ r.each t i))
          ∙ sym sees_is)))
          (λ s n. let tail = run machine (at next sessions2) (turns machine.shared left2 (order_of ps)) in
          ap (events_of s) run_is
          ∙ (ap (λ b. cond b (event t c m ∷ events_of s (locs ++ tail)) (events_of s (locs ++ tail))) (other_number t s (λ e. n (sym e)))
          ∙ (filter-append (λ (e : Event C R V). e.session == s) locs tail ∙ ((λ i. locals_other machine s t next m.has (locals machine.shared cs) (locals_local machine cs) n i ++ r.each s i)
          ∙ sym (sees_other s n)))));
      all = let tail = run machine (at next sessions2) (turns machine.shared left2 (order_of ps)) in
          ap (given_by machine.shared) run_is
          ∙ (ap (λ b. map (λ (e : Event C R V). e.gives) (cond b (event t c m ∷ filter (λ e. machine.shared e.call) (locs ++ tail)) (filter (λ e. machine.shared e.call) (locs ++ tail)))) is_shared
          ∙ (λ i. gives_is i ∷ (given_after tail ∙ r.all) i));
    }

  pub runs : (places : List (Place V)) (versions : List V) (sessions : ℕ → S) (left : ℕ → List C) → Meets versions sessions left places → Runs versions sessions left places
  runs [] versions sessions left meets = record { each = λ s. sym (own_none machine s versions (sessions s) [] (left s) (meets.starts s) (sym (meets.counts s))); all = refl }
  runs (p ∷ ps) versions sessions left meets = elim (left p.session) as (λ l. left p.session ≡ l → Runs versions sessions left (p ∷ ps)) [
    | [] ↦ λ is. absurd (let a : times p.session (order_of (p ∷ ps)) ≡ 0 = meets.counts p.session ∙ ap (shared_calls machine.shared) is in
        let b : suc (times p.session (order_of ps)) ≡ times p.session (order_of (p ∷ ps)) = ap (λ b. length (cond b (p.session ∷ filter (λ k. k == p.session) (order_of ps)) (filter (λ k. k == p.session) (order_of ps)))) (sym (same_number p.session)) in omega arith)
    | c ∷ cs ↦ λ is. runs_first versions sessions left p ps c cs is meets (runs ps _ _ _ (meets_next versions sessions left p ps c cs is meets))
  ] refl

  -- the machine takes the local calls at the front
  pub record Begins (n : ℕ) (xs : List (List C)) (versions : List V) (sessions : ℕ → S) (rest : List (ℕ × C)) : Type 0 where
    pub told : List (Event C R V)
    pub is : run machine (at versions sessions) (fronts machine.shared n xs ++ rest) ≡ told ++ run machine (at versions (λ s. after_locals machine versions (sessions s) (locals machine.shared (script_from n xs s)))) rest
    pub each : (s : ℕ) → events_of s told ≡ own_from machine s versions (sessions s) [] (locals machine.shared (script_from n xs s))
    pub silent : given_by machine.shared told ≡ []

  given_append : (xs ys : List (Event C R V)) → given_by machine.shared (xs ++ ys) ≡ given_by machine.shared xs ++ given_by machine.shared ys
  given_append xs ys =
      ap (map (λ (e : Event C R V). e.gives)) (filter-append (λ (e : Event C R V). machine.shared e.call) xs ys)
      ∙ map-append (λ (e : Event C R V). e.gives) (filter (λ (e : Event C R V). machine.shared e.call) xs) (filter (λ (e : Event C R V). machine.shared e.call) ys)

  begins : (n : ℕ) (xs : List (List C)) (versions : List V) (sessions : ℕ → S) (rest : List (ℕ × C)) → Begins n xs versions sessions rest
  begins n [] versions sessions rest = record { told = []; is = refl; each = λ s. refl; silent = refl }
  begins n (x ∷ xs) versions sessions rest =
      let ls = locals machine.shared x in
      let has = after_locals machine versions (sessions n) ls in
      let sessions2 : ℕ → S = put n has sessions in
      let first = own_from machine n versions (sessions n) [] ls in
      let b = begins (n + 1) xs versions sessions2 rest in
      let gone : script_from (n + 1) xs n ≡ [] = none_before (n + 1) n xs (omega arith) in
      let states : (s : ℕ) → after_locals machine versions (sessions2 s) (locals machine.shared (script_from (n + 1) xs s)) ≡ after_locals machine versions (sessions s) (locals machine.shared (script_from n (x ∷ xs) s)) =
      by_number n (λ s. after_locals machine versions (sessions2 s) (locals machine.shared (script_from (n + 1) xs s)) ≡ after_locals machine versions (sessions s) (locals machine.shared (script_from n (x ∷ xs) s)))
      (ap (λ l. after_locals machine versions (sessions2 n) (locals machine.shared l)) gone ∙ (put_same n has sessions ∙ ap (λ l. after_locals machine versions (sessions n) (locals machine.shared l)) (sym (script_here n x xs))))
      (λ s h. ap (λ y. after_locals machine versions y (locals machine.shared (script_from (n + 1) xs s))) (put_other n s has sessions h) ∙ ap (λ l. after_locals machine versions (sessions s) (locals machine.shared l)) (sym (script_there n s x xs h))) in
      record {
        told = first ++ b.told;
        is = ap (run machine (at versions sessions)) (append_assoc (of_session n ls) (fronts machine.shared (n + 1) xs) rest)
            ∙ (run_locals machine quiet n versions sessions ls (fronts machine.shared (n + 1) xs ++ rest) (locals_local machine x)
            ∙ (ap (λ es. first ++ es) b.is
            ∙ (sym (append_assoc first b.told (run machine (at versions (λ s. after_locals machine versions (sessions2 s) (locals machine.shared (script_from (n + 1) xs s)))) rest))
            ∙ ap (λ (f : ℕ → S). first ++ b.told ++ run machine (at versions f) rest) (λ i s. states s i))));
        each = by_number n (λ s. events_of s (first ++ b.told) ≡ own_from machine s versions (sessions s) [] (locals machine.shared (script_from n (x ∷ xs) s)))
            (filter-append (λ (e : Event C R V). e.session == n) first b.told
            ∙ ((λ i. locals_mine machine n versions (sessions n) ls i ++ (b.each n ∙ ap (λ l. own_from machine n versions (sessions2 n) [] (locals machine.shared l)) gone) i)
            ∙ (append-nil first ∙ ap (λ l. own_from machine n versions (sessions n) [] (locals machine.shared l)) (sym (script_here n x xs)))))
            (λ s h. filter-append (λ (e : Event C R V). e.session == s) first b.told
            ∙ ((λ i. locals_other machine s n versions (sessions n) ls (locals_local machine x) h i ++ b.each s i)
            ∙ (ap (λ y. own_from machine s versions y [] (locals machine.shared (script_from (n + 1) xs s))) (put_other n s has sessions h) ∙ ap (λ l. own_from machine s versions (sessions s) [] (locals machine.shared l)) (sym (script_there n s x xs h)))));
        silent = given_append first b.told ∙ (λ i. locals_silent machine n versions (sessions n) ls (locals_local machine x) i ++ b.silent i);
      }

  module _ (scripts : List (List C)) (places : List (Place V)) where
    abbrev script_of : ℕ → List C
    script_of = script_from 1 scripts

    abbrev sessions1 : ℕ → S
    sessions1 s = after_locals machine [] machine.fresh (locals machine.shared (script_of s))

    abbrev left1 : ℕ → List C
    left1 s = past_locals machine.shared (script_of s)

    parts : (s : ℕ) → own machine places s (script_of s) ≡ own_from machine s [] machine.fresh [] (locals machine.shared (script_of s)) ++ sees [] sessions1 left1 places s
    parts s = ap (own_from machine s [] machine.fresh (views s [] places)) (locals_split machine (script_of s)) ∙ own_locals machine s [] machine.fresh (views s [] places) (locals machine.shared (script_of s)) (left1 s) (locals_local machine (script_of s))

    meets_first : IsOrder machine.shared scripts (order_of places) → ((s : ℕ) → given_at (places_of s places) ≡ given_by machine.shared (own machine places s (script_of s))) → Meets [] sessions1 left1 places
    meets_first order agree = record {
      starts = λ s. past_starts machine (script_of s);
      counts = λ s. order s ∙ sym (past_calls machine (script_of s));
      agree = λ s. agree s ∙ (ap (given_by machine.shared) (parts s) ∙ (given_append (own_from machine s [] machine.fresh [] (locals machine.shared (script_of s))) (sees [] sessions1 left1 places s)
          ∙ ap (λ l. l ++ given_by machine.shared (sees [] sessions1 left1 places s)) (locals_silent machine s [] machine.fresh (locals machine.shared (script_of s)) (locals_local machine (script_of s)))));
    }

    all_same : (n : ℕ) (xs : List (List C)) (told : List (Event C R V)) → ((s : ℕ) → n ≤ s → events_of s told ≡ own machine places s (script_from n xs s)) → all_replies n xs told ≡ all_own machine places n xs
    all_same n [] told h = refl
    all_same n (x ∷ xs) told h = λ i. replies_of ((h n (omega arith) ∙ ap (own machine places n) (script_here n x xs)) i)
        ∷ all_same (n + 1) xs told (λ s le. let ne : s ≢ n = λ e. omega arith in h s (omega arith) ∙ ap (own machine places s) (script_there n s x xs ne)) i

    -- the law on orders
    pub one_order : IsOrder machine.shared scripts (order_of places) → ((s : ℕ) → given_at (places_of s places) ≡ given_by machine.shared (own machine places s (script_of s)))
        → (replies machine scripts (order_of places) ≡ all_own machine places 1 scripts) × (published machine scripts (order_of places) ≡ given_at places)
    one_order order agree =
        let b = begins 1 scripts [] (λ (s : ℕ). machine.fresh) (turns machine.shared left1 (order_of places)) in
        let r = runs places [] sessions1 left1 (meets_first order agree) in
        let tail = run machine (at [] sessions1) (turns machine.shared left1 (order_of places)) in
        let told = events machine scripts (order_of places) in
        let each : (s : ℕ) → events_of s told ≡ own machine places s (script_of s) = λ s.
        ap (events_of s) b.is ∙ (filter-append (λ (e : Event C R V). e.session == s) b.told tail ∙ ((λ i. b.each s i ++ r.each s i) ∙ sym (parts s))) in
        (all_same 1 scripts told (λ s h. each s), ap (given_by machine.shared) b.is ∙ (given_append b.told tail ∙ (λ i. b.silent i ++ r.all i)))
