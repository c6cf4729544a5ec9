-- All sessions in turn, along one order.
use Rattle.std.proofs.Common.{◌≡◌, inl, inr, ℕ, suc, ◌+◌, ◌<◌, ◌≤◌, cond, List, [], ◌∷◌, map, length, drop, get_or, refl, sym, ap, ◌∙◌, subst, arith}
use Rattle.std.specs.List.{AllByRecursion as Every}
use Rattle.std.proofs.lemmas.List.{append-nil}
use Rattle.std.proofs.Math.ListN.{drop_of_length-le}
use mathlib.Core.Logic.{dite}
use native.Mathlib.Decide.{dec_le, ℕ_discrete}
use Rattle.cell_arcs.specs.declared.cells.Cell.{Cell}
use Rattle.session_script.specs.Calls.{is_shared}
use Rattle.session_script.specs.declared.calls.Call.{Call}
use Rattle.session_machine.specs.Orders.{times, shared_calls, script_from, IsOrder}
use Rattle.session_machine.specs.Machine.{given_by, replies_of}
use Rattle.session_machine.specs.Machine as machine
use Rattle.session_machine.specs.Alone.{views, order_of, places_of, given_at, own, own_from, all_own}
use Rattle.session_machine.specs.Sessions.{SessionsAreOneOrder, sessions}
use Rattle.session_machine.specs.Table.{fresh}
use Rattle.session_run.proofs.Numbers.{same_number, other_number}
use Rattle.session_run.proofs.Numbers.{none_outside, none_before}
use Rattle.pinned_reader.specs.Rows.{RowState}
use Rattle.query_replies.specs.Readings.{Analyses, readings_in}
use Rattle.query_replies.specs.Served.{base_of, AreServed}
use Rattle.session_run.specs.declared.players.Player.{Player}
use Rattle.session_run.specs.Items.{Item, session_of, places_in}
use Rattle.session_run.specs.Going.{machine_at}
use Rattle.session_run.specs.Playing.{IsPlaying}
use Rattle.session_run.specs.InTurn.{AreSeated, AreKnown}
use Rattle.session_run.specs.Jobs.{Each}
use Rattle.session_run.proofs.Counts.{times_own, times_outside}

pub row_get : {A : Type 0} (P : ℕ → List Call → A → Type 0) (n : ℕ) (xs : List (List Call)) (ys : List A) (s : ℕ) → Each P n xs ys → n ≤ s → s < n + length xs → (y : A) × P s (script_from n xs s) y
row_get P n [] ys s r a b = absurd (omega arith)
row_get P n (x ∷ xs) [] s r a b = absurd r
row_get P n (x ∷ xs) (y ∷ ys) s r a b = dite (ℕ_discrete s n)
    (λ e. (y, subst (λ k. P k (script_from n (x ∷ xs) k) y) (sym e) (subst (λ (t : List Call). P n t y) (sym (ap (λ b. cond b x (script_from (n + 1) xs n)) (same_number n))) r.0)))
    (λ d. let h = row_get P (n + 1) xs ys s r.1 (omega arith) (omega arith) in (h.0, subst (λ (t : List Call). P s t h.0) (sym (ap (λ b. cond b x (script_from (n + 1) xs s)) (other_number s n d))) h.1))

-- from a fact of each index
row_of : (P : ℕ → List Call → Player → Type 0) (n : ℕ) (xs : List (List Call)) (ps : List Player) → length ps ≡ length xs → ((k : ℕ) (x : List Call) (p : Player) → k < length xs → P (n + k) (get_or xs k x) (get_or ps k p)) → Each P n xs ps
row_of P n [] [] l h = tt
row_of P n [] (p ∷ ps) l h = absurd (omega arith)
row_of P n (x ∷ xs) [] l h = absurd (omega arith)
row_of P n (x ∷ xs) (p ∷ ps) l h =
    let z : n + 0 ≡ n = omega arith in
    (subst (λ m. P m x p) z (h 0 x p (omega arith)), row_of P (n + 1) xs ps (omega arith) (λ k y q lt. let e : n + suc k ≡ n + 1 + k = omega arith in subst (λ m. P m (get_or xs k y) (get_or ps k q)) e (h (suc k) y q (omega arith))))

pub sessions_of : (items : List Item) → map (λ e. e.session) (map (λ (i : Item). i.entry) items) ≡ map (λ (i : Item). i.entry.session) items
sessions_of [] = refl
sessions_of (i ∷ is) = ap (λ l. i.entry.session ∷ l) (sessions_of is)

pub order_is : (items : List Item) → map (λ (i : Item). i.entry.session) items ≡ order_of (places_in items)
order_is [] = refl
order_is (i ∷ is) = ap (λ l. i.entry.session ∷ l) (order_is is)

module _ (all : Analyses) (base : RowState) (seen : List Item) where
  -- a session that is done
  record IsMine (n : ℕ) (x : List Call) (p : Player) : Type 0 where
    pub replies_are : replies_of (own (machine_at all base) (places_in seen) n x) ≡ p.replies.items
    pub agrees : given_at (places_of n (places_in seen)) ≡ given_by is_shared (own (machine_at all base) (places_in seen) n x)
    pub count : times n (order_of (places_in seen)) ≡ shared_calls is_shared x

  done_mine : (n : ℕ) (x : List Call) (p : Player) → IsPlaying all base seen n x p.session p.replies.items [] → IsMine n x p
  done_mine n x p h =
      let whole : own_from (machine_at all base) n [] fresh (views n [] (places_in seen)) x ≡ h.told = ap (λ l. own_from (machine_at all base) n [] fresh l x) (sym (append-nil (views n [] (places_in seen)))) ∙ (h.going.goes [] ∙ append-nil h.told) in
      record {
        replies_are = ap replies_of whole ∙ sym h.replies_are;
        agrees = h.going.given ∙ ap (given_by is_shared) (sym whole);
        count = times_own n seen ∙ (let c = h.count in omega arith);
      }

  all_mine : (scripts : List (List Call)) (players : List Player) (at : ℕ) → AreSeated all base seen scripts players 0 at → ((k : ℕ) (d : List Call) → k < length scripts → length (get_or scripts k d) ≤ at) → Each IsMine 1 scripts players
  all_mine scripts players at s done = row_of IsMine 1 scripts players s.many (λ k x p lt.
      let e : k + 1 ≡ 1 + k = omega arith in
      let none : drop at (get_or scripts k x) ≡ [] = drop_of_length-le (get_or scripts k x) (done k x lt) in
      subst (λ m. IsMine m (get_or scripts k x) (get_or players k p)) e
      (done_mine (k + 1) (get_or scripts k x) (get_or players k p) (subst (IsPlaying all base seen (k + 1) (get_or scripts k x) (get_or players k p).session (get_or players k p).replies.items) none (s.behind k x p (omega arith) lt))))

  module _ (scripts : List (List Call)) (ps : List Player) (within : Every (λ e. (1 ≤ session_of e) × (session_of e ≤ length scripts)) seen) (row : Each IsMine 1 scripts ps) where
    is_order : IsOrder is_shared scripts (order_of (places_in seen))
    is_order s = dite (dec_le 1 s)
        (λ from. dite (dec_le s (length scripts))
        (λ upto. let h = row_get IsMine 1 scripts ps s row from (omega arith) in h.1.count)
        (λ above. times_outside s (length scripts) seen within (inr (omega arith)) ∙ sym (ap (shared_calls is_shared) (none_outside 1 s scripts (omega arith)))))
        (λ below. times_outside s (length scripts) seen within (inl (omega arith)) ∙ sym (ap (shared_calls is_shared) (none_before 1 s scripts (omega arith))))

    all_replies : (n : ℕ) (xs : List (List Call)) (ys : List Player) → Each IsMine n xs ys → all_own (machine_at all base) (places_in seen) n xs ≡ map (λ p. p.replies.items) ys
    all_replies n [] [] r = refl
    all_replies n [] (y ∷ ys) r = absurd r
    all_replies n (x ∷ xs) [] r = absurd r
    all_replies n (x ∷ xs) (y ∷ ys) r = λ i. r.0.replies_are i ∷ all_replies (n + 1) xs ys r.1 i

    replies_along : SessionsAreOneOrder → (order : List ℕ) → order ≡ order_of (places_in seen) → map (λ p. p.replies.items) ps ≡ machine.replies (machine_at all base) scripts order
    replies_along law order is =
        let l = law (readings_in all) (base_of all.library base.netlist) scripts (places_in seen) is_order (λ s a b. let h = row_get IsMine 1 scripts ps s row a (omega arith) in h.1.agrees) in
        sym (ap (machine.replies (machine_at all base) scripts) is ∙ (l.0 ∙ all_replies 1 scripts ps row))

-- the players are done
pub record AreDone (base : RowState) (items : List Item) (scripts : List (List Call)) (players : List Player) (at : ℕ) : Type 0 where
  pub seated : (all : Analyses) → base.library ≡ all.library → AreSeated all base items scripts players 0 at
  pub past : (k : ℕ) (d : List Call) → k < length scripts → length (get_or scripts k d) ≤ at

pub all_served : SessionsAreOneOrder → (base : RowState) (items : List Item) (scripts : List (List Call)) (players : List Player) (at : ℕ) → AreKnown base → AreDone base items scripts players at
    → AreServed base.library base.netlist scripts (map (λ (i : Item). i.entry.session) items) (map (λ p. p.replies.items) players)
all_served law base items scripts players at known done =
    let order = map (λ (i : Item). i.entry.session) items in
    let some = done.seated known.0 known.1 in
    record {
      order_is = subst (IsOrder is_shared scripts) (sym (order_is items)) (is_order known.0 base items scripts players some.within (all_mine known.0 base items scripts players at some done.past));
      replies_are = λ all is.
          let s = done.seated all (sym is) in
          replies_along all base items scripts players s.within (all_mine all base items scripts players at s done.past) law order (order_is items)
          ∙ ap (λ (l : List Cell). machine.replies (sessions (readings_in all) (base_of l base.netlist)) scripts order) is;
    }
