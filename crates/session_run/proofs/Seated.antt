-- Sessions that play in turn, call by call.
use Rattle.std.proofs.Common.{◌≡◌, ◌≢◌, None, ℕ, zero, suc, ◌+◌, ◌<◌, ◌≤◌, true, List, [], ◌∷◌, ◌++◌, length, drop, get_or, refl, sym, ap, ◌∙◌, subst, arith, lt_of_not-le, add-one, drop-cons}
use Rattle.std.specs.Prelude.{slice_set}
use Rattle.std.specs.List.{AllByRecursion as Every}
use Rattle.std.proofs.lemmas.List.{length-set, get_or-set_same, get_or-set_other, get_or_default}
use Rattle.std.proofs.Math.ListN.{drop_of_length-le}
use mathlib.Core.Logic.{dite}
use native.Mathlib.Decide.{dec_le, ℕ_discrete}
use Rattle.turn_book.specs.Views.{own}
use Rattle.version_store.specs.declared.state.HallState.{HallState}
use Rattle.session_script.specs.Calls.{is_shared}
use Rattle.session_script.specs.declared.calls.Call.{Call}
use Rattle.session_machine.specs.Orders.{shared_calls}
use Rattle.pinned_reader.specs.Rows.{RowState}
use Rattle.query_replies.specs.Readings.{Analyses}
use Rattle.session_calls.specs.States.{SessionState, Knows, rows}
use Rattle.session_run.specs.declared.players.Player.{Player}
use Rattle.session_run.specs.Items.{Item, session_of}
use Rattle.session_run.specs.Playing.{IsPlaying, Plays}
use Rattle.session_run.specs.InTurn.{calls_of, Sits, AreSeated}
use Rattle.session_run.proofs.Counts.{fewer_items}
use Rattle.session_run.proofs.Playing.{playing_other, playing_first, calls_shared}

every_more : (n m : ℕ) (items new : List Item) → 1 ≤ m → m ≤ n → Every (λ e. session_of e ≡ m) new → Every (λ e. (1 ≤ session_of e) × (session_of e ≤ n)) items → Every (λ e. (1 ≤ session_of e) × (session_of e ≤ n)) (items ++ new)
every_more n m [] [] a b e w = tt
every_more n m [] (i ∷ new) a b e w = ((let h = e.0 in omega arith, let h = e.0 in omega arith), every_more n m [] new a b e.1 w)
every_more n m (i ∷ items) new a b e w = (w.0, every_more n m items new a b e w.1)

module _ (all : Analyses) (base : RowState) (scripts : List (List Call)) (i at : ℕ) where
  module _ (items : List Item) (players : List Player) (s : AreSeated all base items scripts players i at) (lt : i < length scripts) where
    -- the player at i makes its call
    seated_turn : (new : List Item) (x : List Call) (p : Player) → Every (λ e. session_of e ≡ i + 1) new → x ≡ get_or scripts i x → Sits all base (items ++ new) (at + 1) i x p → AreSeated all base (items ++ new) scripts (slice_set players i p) (i + 1) at
    seated_turn new x p mine is sits = record {
      many = length-set players i p ∙ s.many;
      before = λ k y q h. dite (ℕ_discrete k i)
          (λ e. subst (λ (j : ℕ). Sits all base (items ++ new) (at + 1) j (get_or scripts j y) (get_or (slice_set players i p) j q)) (sym e)
          (let same : get_or (slice_set players i p) i q ≡ p = get_or-set_same players i p q (let m = s.many in omega arith) in
          let script : get_or scripts i y ≡ x = get_or_default scripts i y x lt ∙ sym is in
          subst (λ (z : List Call × Player). Sits all base (items ++ new) (at + 1) i z.0 z.1) (λ j. (sym script j, sym same j)) sits))
          (λ d. subst (Sits all base (items ++ new) (at + 1) k (get_or scripts k y)) (sym (get_or-set_other players i k p q d))
          (playing_other all base items new (k + 1) (i + 1) _ _ _ _ mine (λ e. d (omega arith)) (s.before k y q (omega arith))));
      behind = λ k y q a b. let d : k ≢ i = λ e. omega arith in subst (Sits all base (items ++ new) at k (get_or scripts k y)) (sym (get_or-set_other players i k p q d))
          (playing_other all base items new (k + 1) (i + 1) _ _ _ _ mine (λ e. d (omega arith)) (s.behind k y q (omega arith) b));
      within = every_more (length scripts) (i + 1) items new (omega arith) (omega arith) mine s.within;
    }

    -- its script is done
    pub seated_skip : (x : List Call) → x ≡ get_or scripts i x → length x ≤ at → AreSeated all base items scripts players (i + 1) at
    seated_skip x is done = record {
      many = s.many;
      before = λ k y q h. dite (ℕ_discrete k i)
          (λ e. subst (λ (j : ℕ). Sits all base items (at + 1) j (get_or scripts j y) (get_or players j q)) (sym e)
          (let b = s.behind i y q (omega arith) lt in
          let script : get_or scripts i y ≡ x = get_or_default scripts i y x lt ∙ sym is in
          let none : drop at (get_or scripts i y) ≡ drop (at + 1) (get_or scripts i y) =
          ap (drop at) script ∙ (drop_of_length-le x done ∙ sym (ap (drop (at + 1)) script ∙ drop_of_length-le x (omega arith))) in
          subst (IsPlaying all base items (i + 1) (get_or scripts i y) (get_or players i q).session (get_or players i q).replies.items) none b))
          (λ d. s.before k y q (omega arith));
      behind = λ k y q a b. s.behind k y q (omega arith) b;
      within = s.within;
    }

    sits_upto : (a k : ℕ) (x : List Call) (p : Player) → Sits all base items a k x p → length (own session_of (1 + k) items) ≤ shared_calls is_shared x
    sits_upto a k x p s = let c = s.count in let z : 1 + k ≡ k + 1 = omega arith in let e : length (own session_of (1 + k) items) ≡ length (own session_of (k + 1) items) = ap (λ m. length (own session_of m items)) z in omega arith

    -- before a shared call there are fewer items than shared calls
    seated_room : (x : List Call) (p : Player) (c : Call) (rest : List Call) → x ≡ get_or scripts i x → drop at x ≡ c ∷ rest → is_shared c ≡ true → length items < calls_of scripts
    seated_room x p c rest is split sh =
        let each : (k : ℕ) → k < length scripts → length (own session_of (1 + k) items) ≤ shared_calls is_shared (get_or scripts k []) = λ k h.
        dite (dec_le i k) (λ le. sits_upto at k (get_or scripts k []) (get_or players k p) (s.behind k [] p le h)) (λ gt. sits_upto (at + 1) k (get_or scripts k []) (get_or players k p) (s.before k [] p (lt_of_not-le gt))) in
        let mine = s.behind i x p (omega arith) lt in
        let left : shared_calls is_shared (drop at (get_or scripts i x)) ≡ suc (shared_calls is_shared rest) = ap (λ (v : List Call). shared_calls is_shared (drop at v)) (sym is) ∙ (ap (shared_calls is_shared) split ∙ calls_shared c rest true sh) in
        let strict : length (own session_of (1 + i) items) < shared_calls is_shared (get_or scripts i []) =
        subst (λ (l : List Call). length (own session_of (1 + i) items) < shared_calls is_shared l) (get_or_default scripts i x [] lt)
        (let n = mine.count in let z : 1 + i ≡ i + 1 = omega arith in let e : length (own session_of (1 + i) items) ≡ length (own session_of (i + 1) items) = ap (λ m. length (own session_of m items)) z in omega arith) in
        fewer_items i scripts items s.within lt each strict

pub seated_round : (all : Analyses) (base : RowState) (items : List Item) (scripts : List (List Call)) (players : List Player) (i at : ℕ) → length scripts ≤ i → AreSeated all base items scripts players i at → AreSeated all base items scripts players 0 (at + 1)
seated_round all base items scripts players i at h s = record { many = s.many; before = λ k x p lt. absurd (omega arith); behind = λ k x p a b. s.before k x p (omega arith); within = s.within }

split_at : (x : List Call) (at : ℕ) (c : Call) → at < length x → c ≡ get_or x at c → drop at x ≡ c ∷ drop (at + 1) x
split_at x at c lt is = let all : drop at x ≡ get_or x at c ∷ drop (at + 1) x = rw add-one (drop-cons x at c lt) in all ∙ ap (λ (y : Call). y ∷ drop (at + 1) x) (sym is)

module _ (all : Analyses) (h : HallState RowState) (scripts : List (List Call)) (players : List Player) (i at : ℕ) (x : List Call) (p : Player) (c : Call) (s : AreSeated all h.base h.items scripts players i at) (lt : i < length scripts)
    (script : x ≡ get_or scripts i x) (player : p ≡ get_or players i p) (fits : at < length x) (call : c ≡ get_or x at c) where
  split : drop at x ≡ c ∷ drop (at + 1) x
  split = split_at x at c fits call

  sits : IsPlaying all h.base h.items (i + 1) x p.session p.replies.items (c ∷ drop (at + 1) x)
  sits = subst (IsPlaying all h.base h.items (i + 1) x p.session p.replies.items) split
      (subst (λ (z : List Call × Player). Sits all h.base h.items at i z.0 z.1) (λ j. (sym script j, sym player j)) (s.behind i x p (omega arith) lt))

  pub seated_knows : Knows (rows h) p.session
  seated_knows = sits.going.knows

  pub seated_free : calls_of scripts ≡ length h.items + h.room → is_shared c ≡ true → 0 < h.room
  seated_free room sh = let n = seated_room all h.base scripts i at h.items players s lt x p c (drop (at + 1) x) script split sh in omega arith

  pub seated_play : (k : HallState RowState) (q : Player) → Plays h k p.session.number → ((n : ℕ) (script rest : List Call) → IsPlaying all h.base h.items n script p.session p.replies.items (c ∷ rest) → IsPlaying all h.base k.items n script q.session q.replies.items rest)
      → AreSeated all k.base k.items scripts (slice_set players i q) (i + 1) at
  seated_play k q plays goes =
      let mine = subst (λ (m : ℕ). Every (λ e. session_of e ≡ m) plays.new) sits.number plays.mine in
      let after : Sits all h.base (h.items ++ plays.new) (at + 1) i x q =
      subst (λ (l : List Item). IsPlaying all h.base l (i + 1) x q.session q.replies.items (drop (at + 1) x)) plays.items (goes (i + 1) x (drop (at + 1) x) sits) in
      subst (λ (z : RowState × List Item). AreSeated all z.0 z.1 scripts (slice_set players i q) (i + 1) at) (λ j. (sym plays.base j, sym plays.items j)) (seated_turn all h.base scripts i at h.items players s lt plays.new x q mine script after)

get_front : {A : Type 0} (xs : List A) (y d : A) (k : ℕ) → k < length xs → get_or (xs ++ y ∷ []) k d ≡ get_or xs k d
get_front [] y d k h = absurd (omega arith)
get_front (x ∷ xs) y d zero h = refl
get_front (x ∷ xs) y d (suc k) h = get_front xs y d k (omega arith)

get_last : {A : Type 0} (xs : List A) (y d : A) → get_or (xs ++ y ∷ []) (length xs) d ≡ y
get_last [] y d = refl
get_last (x ∷ xs) y d = get_last xs y d

-- one more player sits down
pub sits_more : (scripts : List (List Call)) (players : List Player) (i : ℕ) (p : Player) → length players ≡ i → p.session ≡ record { number = i + 1; pin = None; draft = [] } → p.replies.items ≡ []
    → ((all : Analyses) (base : RowState) (k : ℕ) (x : List Call) (q : Player) → k < i → Sits all base [] 0 k (get_or scripts k x) (get_or players k q))
    → (all : Analyses) (base : RowState) (k : ℕ) (x : List Call) (q : Player) → k < i + 1 → Sits all base [] 0 k (get_or scripts k x) (get_or (players ++ p ∷ []) k q)
sits_more scripts players i p len new none each all base k x q h = dite (ℕ_discrete k i)
    (λ e. subst (λ (j : ℕ). Sits all base [] 0 j (get_or scripts j x) (get_or (players ++ p ∷ []) j q)) (len ∙ sym e)
    (subst (Sits all base [] 0 (length players) (get_or scripts (length players) x)) (sym (get_last players p q))
    (playing_first all base (length players + 1) (get_or scripts (length players) x) p.session p.replies.items (new ∙ ap (λ (m : ℕ). let s : SessionState = record { number = m + 1; pin = None; draft = [] } in s) (sym len)) none)))
    (λ d. subst (Sits all base [] 0 k (get_or scripts k x)) (sym (get_front players p q k (omega arith))) (each all base k x q (omega arith)))
