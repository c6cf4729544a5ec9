-- All sessions of a book along one order.
use Rattle.std.proofs.Common.{◌≡◌, inl, inr, ℕ, suc, ◌+◌, ◌≤◌, List, [], ◌∷◌, ◌++◌, map, length, Option, Some, refl, sym, ap, ◌∙◌, subst, arith}
use Rattle.std.specs.List.{AllByRecursion as Every}
use Rattle.std.proofs.lemmas.List.{append-nil}
use mathlib.Core.Logic.{dite}
use native.Mathlib.Decide.{dec_le}
use Rattle.turn_book.specs.declared.view.Ended.{Ended}
use Rattle.turn_book.specs.Views.{own, HasEndedAll}
use Rattle.cell_arcs.specs.declared.cells.Cell.{Cell}
use Rattle.session_script.specs.Calls.{is_shared}
use Rattle.session_script.specs.declared.calls.Call.{Call}
use Rattle.session_machine.specs.Orders.{times, shared_calls, IsOrder}
use Rattle.session_machine.specs.Machine.{given_by, replies_of}
use Rattle.session_machine.specs.Machine as machine
use Rattle.session_machine.specs.Alone.{views, order_of, places_of, given_at, own_from, all_own}
use Rattle.session_machine.specs.Alone as alone
use Rattle.session_machine.specs.Sessions.{SessionsAreOneOrder, sessions}
use Rattle.session_machine.specs.Table.{fresh}
use Rattle.session_machine.specs.declared.replies.Reply.{Reply}
use Rattle.pinned_reader.specs.Rows.{RowState}
use Rattle.query_replies.specs.Readings.{Analyses, readings_in}
use Rattle.query_replies.specs.Served.{base_of, AreServed}
use Rattle.session_run.specs.declared.threads.ran.Ran.{Ran}
use Rattle.session_run.specs.Items.{Item, session_of, places_in, positions}
use Rattle.session_run.specs.Going.{machine_at}
use Rattle.session_run.specs.Seats.{Origin, SeatView}
use Rattle.session_run.specs.Serving.{HasServed}
use Rattle.session_run.specs.Jobs.{IsJoined, Each, IsTop, AreAlong}
use Rattle.session_run.specs.Filled.{PlacesFrom, IsPlaced}
use Rattle.session_run.proofs.Counts.{times_own, times_outside}
use Rattle.session_run.proofs.Going.{seen_views, seen_places}
use Rattle.session_run.proofs.InTurns.{row_get, order_is}
use Rattle.session_run.proofs.Joins.{in_every, in_times}
use Rattle.session_run.proofs.Numbers.{none_outside, none_before}
use Rattle.session_run.proofs.Serving.{none_after, positions_append, positions_none}

seen_positions : (n : ℕ) (xs ys : List Item) → own session_of n ys ≡ [] → positions n 0 (xs ++ ys) ≡ positions n 0 xs
seen_positions n xs ys none = positions_append n 0 xs ys ∙ (ap (λ l. positions n 0 xs ++ l) (positions_none n (0 + length xs) ys none) ∙ append-nil (positions n 0 xs))

-- what the opening seat knows of one session that was joined
record IsOwn (all : Analyses) (base : RowState) (seen : List Item) (n : ℕ) (x : List Call) (r : Ran) : Type 0 where
  pub replies_are : replies_of (alone.own (machine_at all base) (places_in seen) n x) ≡ r.replies.items
  pub agrees : given_at (places_of n (places_in seen)) ≡ given_by is_shared (alone.own (machine_at all base) (places_in seen) n x)
  pub count : times n (order_of (places_in seen)) ≡ shared_calls is_shared x
  pub places : r.places.items ≡ positions n 0 seen

each_length : {A : Type 0} (P : ℕ → List Call → A → Type 0) (n : ℕ) (xs : List (List Call)) (ys : List A) → Each P n xs ys → length ys ≡ length xs
each_length P n [] [] r = refl
each_length P n [] (y ∷ ys) r = absurd r
each_length P n (x ∷ xs) [] r = absurd r
each_length P n (x ∷ xs) (y ∷ ys) r = ap suc (each_length P (n + 1) xs ys r.1)

module _ (all : Analyses) (o : Origin) (origin : Option Origin) (v : SeatView) (is : origin ≡ Some o) (over : o.base.library ≡ all.library) where
  joined_own : (given n : ℕ) (x : List Call) (r : Ran) → IsTop v given → IsJoined origin v n x r → IsOwn all o.base v.seen n x r
  joined_own given n x r top j =
      let w = j.seat in
      let h : HasServed all o.base n x w r.replies.items r.places.items = j.served all o is over in
      let made : own session_of n v.seen ≡ w.made = in_every (λ (p : Ended Item). own session_of p.number v.seen ≡ p.entries) (record { number = n; entries = w.made }) v.ended j.ended top.each in
      let none : own session_of n j.begins.0 ≡ [] = none_after n w.seen j.begins.0 w.made (ap (own session_of n) (sym j.begins.1) ∙ made) h.mine in
      let same : views n [] (places_in v.seen) ≡ views n [] (places_in w.seen) = ap (λ l. views n [] (places_in l)) j.begins.1 ∙ seen_views n w.seen j.begins.0 none in
      let whole : alone.own (machine_at all o.base) (places_in v.seen) n x ≡ alone.own (machine_at all o.base) (places_in w.seen) n x = ap (λ l. own_from (machine_at all o.base) n [] fresh l x) same in
      record {
        replies_are = ap replies_of whole ∙ sym h.replies_are;
        agrees = ap given_at (ap (λ l. places_of n (places_in l)) j.begins.1 ∙ seen_places n w.seen j.begins.0 none) ∙ (h.given ∙ ap (given_by is_shared) (sym whole));
        count = times_own n v.seen ∙ (ap length made ∙ h.count);
        places = h.places_are ∙ sym (ap (positions n 0) j.begins.1 ∙ seen_positions n w.seen j.begins.0 none);
      }

  each_own : (given n : ℕ) (xs : List (List Call)) (rs : List Ran) → IsTop v given → Each (IsJoined origin v) n xs rs → Each (IsOwn all o.base v.seen) n xs rs
  each_own given n [] [] top row = tt
  each_own given n [] (r ∷ rs) top row = absurd row
  each_own given n (x ∷ xs) [] top row = absurd row
  each_own given n (x ∷ xs) (r ∷ rs) top row = (joined_own given n x r top row.0, each_own given (n + 1) xs rs top row.1)

module _ (all : Analyses) (o : Origin) (v : SeatView) (scripts : List (List Call)) (rs : List Ran) (top : IsTop v (length scripts)) (row : Each (IsOwn all o.base v.seen) 1 scripts rs) where
  in_order : IsOrder is_shared scripts (order_of (places_in v.seen))
  in_order s = dite (dec_le 1 s)
      (λ from. dite (dec_le s (length scripts))
      (λ upto. let h = row_get (IsOwn all o.base v.seen) 1 scripts rs s row from (omega arith) in h.1.count)
      (λ above. let g = top.given_is in times_outside s v.given v.seen top.all (inr (omega arith)) ∙ sym (ap (shared_calls is_shared) (none_outside 1 s scripts (omega arith)))))
      (λ below. times_outside s v.given v.seen top.all (inl (omega arith)) ∙ sym (ap (shared_calls is_shared) (none_before 1 s scripts (omega arith))))

  all_replies : (n : ℕ) (xs : List (List Call)) (ys : List Ran) → Each (IsOwn all o.base v.seen) n xs ys → all_own (machine_at all o.base) (places_in v.seen) n xs ≡ map (λ r. r.replies.items) ys
  all_replies n [] [] r = refl
  all_replies n [] (y ∷ ys) r = absurd r
  all_replies n (x ∷ xs) [] r = absurd r
  all_replies n (x ∷ xs) (y ∷ ys) r = λ i. r.0.replies_are i ∷ all_replies (n + 1) xs ys r.1 i

  along : SessionsAreOneOrder → (order : List ℕ) → order ≡ order_of (places_in v.seen) → AreAlong all o scripts v order (map (λ r. r.replies.items) rs)
  along law order is =
      let l = law (readings_in all) (base_of all.library o.base.netlist) scripts (places_in v.seen) in_order (λ s a b. let h = row_get (IsOwn all o.base v.seen) 1 scripts rs s row a (omega arith) in h.1.agrees) in
      record {
        order_is = is;
        is_order = subst (IsOrder is_shared scripts) (sym is) in_order;
        replies_are = sym (ap (machine.replies (machine_at all o.base) scripts) is ∙ (l.0 ∙ all_replies 1 scripts rs row));
        published = ap (machine.published (machine_at all o.base) scripts) is ∙ l.1;
      }

places_from : (all : Analyses) (base : RowState) (seen : List Item) (n : ℕ) (xs : List (List Call)) (rs : List Ran) → Each (IsOwn all base seen) n xs rs → PlacesFrom n rs seen
places_from all base seen n [] [] r = tt
places_from all base seen n [] (y ∷ ys) r = absurd r
places_from all base seen n (x ∷ xs) [] r = absurd r
places_from all base seen n (x ∷ xs) (y ∷ ys) r = (r.0.places, places_from all base seen (n + 1) xs ys r.1)

-- all that the top call needs
pub record IsWhole (o : Origin) (scripts : List (List Call)) (v : SeatView) (rs : List Ran) : Type 0 where
  pub few : length rs ≡ length scripts
  pub placed : IsPlaced rs v.seen
  pub along : SessionsAreOneOrder → (all : Analyses) → o.base.library ≡ all.library → (order : List ℕ) → order ≡ map session_of v.seen → AreAlong all o scripts v order (map (λ r. r.replies.items) rs)

pub whole : (known : Analyses) (o : Origin) (origin : Option Origin) (scripts : List (List Call)) (v : SeatView) (given : ℕ) (rs : List Ran) → origin ≡ Some o → o.base.library ≡ known.library → given ≡ length scripts → IsTop v given → Each (IsJoined origin v) 1 scripts rs → IsWhole o scripts v rs
whole known o origin scripts v given rs is over count top row =
    let few = each_length (IsJoined origin v) 1 scripts rs row in
    let top2 : IsTop v (length scripts) = subst (IsTop v) count top in
    record {
      few = few;
      placed = record { places = places_from known o.base v.seen 1 scripts rs (each_own known o origin v is over given 1 scripts rs top row); within = subst (λ n. Every (λ e. (1 ≤ session_of e) × (session_of e ≤ n)) v.seen) (top2.given_is ∙ sym few) top2.all };
      along = λ law all lib order e. along all o v scripts rs top2 (each_own all o origin v is lib given 1 scripts rs top row) law order (e ∙ order_is v.seen);
    }

-- each number that was given is ended
pub ended_all : (origin : Option Origin) (scripts : List (List Call)) (v : SeatView) (rs : List Ran) → v.given ≡ length scripts → Each (IsJoined origin v) 1 scripts rs → HasEndedAll v
ended_all origin scripts v rs count row = λ n a b.
    let h = row_get (IsJoined origin v) 1 scripts rs n row a (omega arith) in
    in_times (record { number = n; entries = h.1.seat.made }) v.ended h.1.ended

-- what is so along the order of the book is what sessions are replied
pub served_along : (known : Analyses) (o : Origin) (scripts : List (List Call)) (v : SeatView) (order : List ℕ) (replies : List (List Reply)) → o.base.library ≡ known.library
    → ((all : Analyses) → o.base.library ≡ all.library → AreAlong all o scripts v order replies) → AreServed o.base.library o.base.netlist scripts order replies
served_along known o scripts v order replies over all_along = record {
  order_is = (all_along known over).is_order;
  replies_are = λ all is. (all_along all (sym is)).replies_are ∙ ap (λ (l : List Cell). machine.replies (sessions (readings_in all) (base_of l o.base.netlist)) scripts order) is;
}
