-- A session's seat, call by call.
use Rattle.std.proofs.Common.{◌≡◌, ℕ, suc, ◌+◌, ◌<◌, ◌≤◌, ◌==◌, true, false, cond, List, [], ◌∷◌, ◌++◌, length, Option, Some, None, refl, sym, ap, ◌∙◌, subst, arith, drop, drop-cons, length-append}
use Rattle.std.specs.Prelude.{MatchOption, slice_get, slice_index_or, option_map, ⊤}
use Rattle.std.proofs.lemmas.List.{append-nil}
use Rattle.std.proofs.lemmas.List.Elements.{filter-append}
use Rattle.turn_book.specs.Views.{own}
use Rattle.version_store.specs.Halls.{rows_of}
use Rattle.session_script.specs.Calls.{is_shared}
use Rattle.session_script.specs.declared.calls.Call.{Call}
use Rattle.session_machine.specs.Machine.{Event, given_by, replies_of}
use Rattle.session_machine.specs.Alone.{views, given_at, own_from}
use Rattle.session_machine.specs.Orders.{shared_calls}
use Rattle.session_machine.specs.Table.{fresh, pinned}
use Rattle.session_machine.specs.Versions.{Version}
use Rattle.session_machine.specs.declared.replies.Reply.{Reply}
use Rattle.pinned_reader.specs.Rows.{RowState}
use Rattle.query_replies.specs.Readings.{Analyses}
use Rattle.session_calls.specs.States.{SessionState, holding_of, act_on, local_by}
use Rattle.session_run.specs.Items.{Item, session_of, places_in, acts_in, positions}
use Rattle.session_run.specs.Acts.{acts_from}
use Rattle.session_run.specs.Going.{machine_at, nets_at, rows_at, IsGoing}
use Rattle.session_run.specs.Seats.{Origin, SeatView, TookTurn}
use Rattle.session_run.specs.Serving.{IsActing, IsServing, HasServed}
use Rattle.session_run.proofs.Going.{acting_local, acting_turn, views_none, places_own}
use Rattle.session_run.proofs.Numbers.{same_number}
use Rattle.session_calls.proofs.Rows.{over_rows}
use Rattle.session_run.proofs.Playing.{calls_shared, replies_more}

-- what comes after has nothing of a session
nil_of : {A : Type 0} (xs ys : List A) → xs ++ ys ≡ xs → ys ≡ []
nil_of [] ys e = e
nil_of (x ∷ xs) ys e = nil_of xs ys (cc)

pub none_after : (n : ℕ) (xs ys made : List Item) → own session_of n (xs ++ ys) ≡ made → own session_of n xs ≡ made → own session_of n ys ≡ []
none_after n xs ys made p q = nil_of made (own session_of n ys) (ap (λ l. l ++ own session_of n ys) (sym q) ∙ (sym (filter-append (λ (i : Item). session_of i == n) xs ys) ∙ p))

pub positions_append : (n at : ℕ) (xs ys : List Item) → positions n at (xs ++ ys) ≡ positions n at xs ++ positions n (at + length xs) ys
positions_append n at [] ys = let e : at ≡ at + 0 = omega arith in ap (λ k. positions n k ys) e
positions_append n at (x ∷ xs) ys =
    let e : at + 1 + length xs ≡ at + suc (length xs) = omega arith in
    let more = positions_append n (at + 1) xs ys ∙ ap (λ k. positions n (at + 1) xs ++ positions n k ys) e in
    elim (x.entry.session == n) as (λ b. cond b (at ∷ positions n (at + 1) (xs ++ ys)) (positions n (at + 1) (xs ++ ys)) ≡ cond b (at ∷ positions n (at + 1) xs) (positions n (at + 1) xs) ++ positions n (at + suc (length xs)) ys) [
      | true ↦ ap (λ l. at ∷ l) more
      | false ↦ more
    ]

pub positions_none : (n at : ℕ) (xs : List Item) → own session_of n xs ≡ [] → positions n at xs ≡ []
positions_none n at [] e = refl
positions_none n at (x ∷ xs) e = elim (x.entry.session == n) as (λ b. cond b (x ∷ own session_of n xs) (own session_of n xs) ≡ [] → cond b (at ∷ positions n (at + 1) xs) (positions n (at + 1) xs) ≡ []) [
  | true ↦ λ k. absurd (cc)
  | false ↦ λ k. positions_none n (at + 1) xs k
] e

module _ (all : Analyses) (o : Origin) (n : ℕ) (script : List Call) where
  -- before the first call
  pub serving_first : (v : SeatView) (s : SessionState) (replies : List Reply) (places : List ℕ) → s ≡ record { number = n; pin = None; draft = [] } → replies ≡ [] → places ≡ [] → v.made ≡ [] → own session_of n v.seen ≡ [] → v.left ≡ shared_calls is_shared script
      → IsServing all o.base n script v s replies places script
  serving_first v s replies places new no_reply no_place made none left =
      let no_places = places_own n v.seen ∙ ap places_in none in
      let no_views : views n [] (places_in v.seen) ≡ [] = views_none n [] (places_in v.seen) no_places in
      let pin : s.pin ≡ None = ap (λ (s : SessionState). s.pin) new in
      record {
        told = [];
        going = record {
          now = [];
          goes = λ later. (λ i. own_from (machine_at all o.base) n [] (holding_of (sym new i)) (no_views i ++ later) script);
          holds = ap (λ (p : Option (ℕ × RowState)). pinned (nets_at all o.base []) (record { pin = option_map (λ q. q.0) p; draft = [] })) pin ∙ sym (ap (λ (p : Option (ℕ × RowState)). option_map (λ q. q.1.netlist) p) pin);
          knows = subst (λ (p : Option (ℕ × RowState)). MatchOption p ⊤ (λ q. slice_get (rows_at o.base v.seen) q.0 ≡ Some q.1)) (sym pin) tt;
          given = ap given_at no_places;
        };
        acting = λ later. (λ i. acts_in (sym made i) ++ acts_from all o.base [] (holding_of (sym new i)) (no_views i ++ later) script);
        over = subst (λ (p : Option (ℕ × RowState)). MatchOption p ⊤ (λ q. q.1.library ≡ all.library)) (sym pin) tt;
        number = ap (λ (s : SessionState). s.number) new;
        mine = none ∙ sym made;
        left = left;
        count = let z : length v.made ≡ 0 = ap length made in omega arith;
        replies_are = no_reply;
        places_are = no_place ∙ sym (positions_none n 0 v.seen none);
      }

  module _ (v : SeatView) (s t : SessionState) (replies : List Reply) (places : List ℕ) (c : Call) (rest : List Call) (r : Reply) (now : IsServing all o.base n script v s replies places (c ∷ rest)) where
    pub serving_local : is_shared c ≡ false → holding_of t ≡ (local_by all s c).0 → r ≡ (local_by all s c).1 → t.pin ≡ s.pin → t.number ≡ s.number → IsServing all o.base n script v t (replies ++ r ∷ []) places rest
    serving_local sh has says pin number =
        let next = acting_local all o.base n script v.seen s t now.told c rest r now.going sh has says pin v.made now.acting in
        record {
          told = _;
          going = next.0;
          acting = next.1;
          over = subst (λ (p : Option (ℕ × RowState)). MatchOption p ⊤ (λ q. q.1.library ≡ all.library)) (sym pin) now.over;
          number = number ∙ now.number;
          mine = now.mine;
          left = now.left ∙ calls_shared c rest false sh;
          count = let a = now.count in let b = calls_shared c rest false sh in omega arith;
          replies_are = ap (λ l. l ++ r ∷ []) now.replies_are ∙ sym (replies_more now.told _);
          places_are = now.places_are;
        }

    pub serving_turn : (w : SeatView) (place : ℕ) → o.base.library ≡ all.library → is_shared c ≡ true → v.number ≡ n → TookTurn all o v w s t c place r → IsServing all o.base n script w t (replies ++ r ∷ []) (places ++ place ∷ []) rest
    serving_turn w place over sh num turn =
        let seen : w.seen ≡ turn.list ++ turn.entry ∷ [] = ap (λ (v : SeatView). v.seen) turn.after in
        let made : w.made ≡ v.made ++ turn.entry ∷ [] = ap (λ (v : SeatView). v.made) turn.after in
        let mine_before : own session_of n turn.list ≡ v.made = ap (λ k. own session_of k turn.list) (sym num) ∙ turn.mine in
        let others : own session_of n turn.begins.0 ≡ [] = none_after n v.seen turn.begins.0 v.made (ap (own session_of n) (sym turn.begins.1) ∙ mine_before) now.mine in
        let number : turn.entry.entry.session ≡ n = turn.session ∙ now.number in
        let m = act_on all (rows_at o.base turn.list) s c in
        let e : Event Call Reply Version = record { session = n; call = c; reply = r; gives = m.gives } in
        let is : (turn.entry.entry.session == n) ≡ true = ap (λ k. k == n) number ∙ same_number n in
        let next = acting_turn all o.base n script v.seen s t now.told c rest r now.going over sh turn.list turn.entry m turn.begins others number refl turn.gives turn.ends turn.chain turn.longer v.made now.acting turn.act in
        let here : (g : IsGoing all o.base n script w.seen t (now.told ++ e ∷ []) rest) × IsActing all o.base n script w.seen w.made g.now (holding_of t) rest =
        subst (λ (q : List Item × List Item). (g : IsGoing all o.base n script q.0 t (now.told ++ e ∷ []) rest) × IsActing all o.base n script q.0 q.1 g.now (holding_of t) rest) (λ i. (sym seen i, sym made i)) next in
        record {
          told = now.told ++ e ∷ [];
          going = here.0;
          acting = here.1;
          over = over_rows all o.base (rows_of (turn.list ++ turn.entry ∷ [])) t turn.chain over (turn.ends.knows (turn.longer now.going.knows));
          number = turn.ends.number ∙ now.number;
          mine = ap (own session_of n) seen ∙ (filter-append (λ (i : Item). session_of i == n) turn.list (turn.entry ∷ []) ∙ ((λ i. mine_before i ++ cond (is i) (turn.entry ∷ []) []) ∙ sym made));
          left = ap (λ (v : SeatView). v.left) turn.after ∙ (let a = now.left in let b = calls_shared c rest true sh in omega arith);
          count =
              let a = now.count in
              let b = calls_shared c rest true sh in
              let d : length w.made ≡ length (v.made ++ turn.entry ∷ []) = ap length made in
              let f = length-append v.made (turn.entry ∷ []) in
              omega arith;
          replies_are = ap (λ l. l ++ r ∷ []) now.replies_are ∙ sym (replies_more now.told e);
          places_are =
              let before : positions n 0 turn.list ≡ places =
              ap (positions n 0) turn.begins.1 ∙ (positions_append n 0 v.seen turn.begins.0 ∙ (ap (λ l. positions n 0 v.seen ++ l) (positions_none n (0 + length v.seen) turn.begins.0 others) ∙ (append-nil (positions n 0 v.seen) ∙ sym now.places_are))) in
              let zero_plus : 0 + length turn.list ≡ place = let p = turn.place_is in omega arith in
              sym (ap (positions n 0) seen ∙ (positions_append n 0 turn.list (turn.entry ∷ []) ∙ (λ i. before i ++ cond (is i) (zero_plus i ∷ []) [])));
        }

  -- after the last call
  pub serving_last : (v : SeatView) (s : SessionState) (replies : List Reply) (places : List ℕ) → IsServing all o.base n script v s replies places [] → HasServed all o.base n script v replies places
  serving_last v s replies places now =
      let whole : own_from (machine_at all o.base) n [] fresh (views n [] (places_in v.seen)) script ≡ now.told =
      ap (λ l. own_from (machine_at all o.base) n [] fresh l script) (sym (append-nil (views n [] (places_in v.seen)))) ∙ (now.going.goes [] ∙ append-nil now.told) in
      record {
        replies_are = now.replies_are ∙ ap replies_of (sym whole);
        given = now.going.given ∙ ap (given_by is_shared) (sym whole);
        acts = sym (ap (λ l. acts_from all o.base [] fresh l script) (sym (append-nil (views n [] (places_in v.seen)))) ∙ (now.acting [] ∙ append-nil (acts_in v.made)));
        mine = now.mine;
        all_made = now.left;
        count = let a = now.count in omega arith;
        places_are = now.places_are;
      }

-- a turn is left for a shared call
pub left_next : (left : ℕ) (script : List Call) (i : ℕ) (d : Call) → i < length script → left ≡ shared_calls is_shared (drop i script) → is_shared (slice_index_or script i d) ≡ true → 1 ≤ left
left_next left script i d lt is sh =
    let call = slice_index_or script i d in
    let split : drop i script ≡ call ∷ drop (suc i) script = drop-cons script i d lt in
    let some : shared_calls is_shared (drop i script) ≡ suc (shared_calls is_shared (drop (suc i) script)) = ap (shared_calls is_shared) split ∙ calls_shared call (drop (suc i) script) true sh in
    omega arith
