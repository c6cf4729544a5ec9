-- A session plays.
use Rattle.std.proofs.Common.{◌≡◌, ◌≢◌, ℕ, suc, ◌+◌, ◌-◌, ◌<◌, ◌==◌, Bool, true, false, cond, List, [], ◌∷◌, ◌++◌, length, Option, Some, None, Result, Ok, Err, refl, sym, ap, ◌∙◌, subst, arith, length-append}
use Rattle.std.specs.List.{filter, AllByRecursion as Every}
use Rattle.std.specs.Prelude.{MatchOption, slice_get, option_map, ⊤, IfOk, OnOk}
use Rattle.std.proofs.lemmas.List.{append-nil, map-append}
use Rattle.std.proofs.lemmas.List.Elements.{filter-append}
use Rattle.turn_book.specs.Views.{own}
use Rattle.version_store.specs.declared.entry.HallAct.{HallAct}
use Rattle.version_store.specs.declared.state.HallState.{HallState}
use Rattle.version_store.specs.Halls.{Chain, rows_of, item, noted}
use Rattle.session_script.specs.Calls.{is_shared}
use Rattle.session_script.specs.declared.calls.Call.{Call}
use Rattle.session_machine.specs.Machine.{Event, replies_of}
use Rattle.session_machine.specs.Orders.{shared_calls}
use Rattle.session_machine.specs.Alone.{given_at, own_from}
use Rattle.session_machine.specs.Table.{fresh, pinned}
use Rattle.session_machine.specs.Versions.{Version}
use Rattle.session_machine.specs.declared.replies.Reply.{Reply}
use Rattle.session_run.proofs.Numbers.{same_number, other_number}
use Rattle.pinned_reader.specs.Rows.{RowState, IsAfter}
use Rattle.query_replies.specs.Readings.{Analyses}
use Rattle.session_calls.specs.declared.session.Ready.{Ready}
use Rattle.session_calls.specs.States.{SessionState, holding_of, rows, act_on, local_by}
use Rattle.session_calls.specs.Turns.{Finishes, Entered, noted_act}
use Rattle.session_run.specs.Items.{Item, session_of}
use Rattle.session_run.specs.Going.{Told, machine_at, nets_at, rows_at}
use Rattle.session_run.specs.Playing.{IsPlaying, Plays, DidShared, DidLocal, Did}
use Rattle.session_run.proofs.Going.{going_local, going_turn, knows_later, seen_views, seen_places}

none_other : (n m : ℕ) (new : List Item) → Every (λ e. session_of e ≡ m) new → m ≢ n → own session_of n new ≡ []
none_other n m [] e d = refl
none_other n m (i ∷ new) e d = ap (λ b. cond b (i ∷ own session_of n new) (own session_of n new)) (other_number (session_of i) n (λ k. d (sym e.0 ∙ k))) ∙ none_other n m new e.1 d

pub replies_more : (told : Told) (e : Event Call Reply Version) → replies_of (told ++ e ∷ []) ≡ replies_of told ++ e.reply ∷ []
replies_more told e = map-append (λ (e : Event Call Reply Version). e.reply) told (e ∷ [])

pub calls_shared : (c : Call) (rest : List Call) (b : Bool) → is_shared c ≡ b → shared_calls is_shared (c ∷ rest) ≡ cond b (suc (shared_calls is_shared rest)) (shared_calls is_shared rest)
calls_shared c rest true e = ap (λ b. length (cond b (c ∷ filter is_shared rest) (filter is_shared rest))) e
calls_shared c rest false e = ap (λ b. length (cond b (c ∷ filter is_shared rest) (filter is_shared rest))) e

module _ (all : Analyses) where
  -- another session's call changes nothing
  pub playing_other : (base : RowState) (seen new : List Item) (n m : ℕ) (script : List Call) (s : SessionState) (replies : List Reply) (rest : List Call) → Every (λ e. session_of e ≡ m) new → m ≢ n
      → IsPlaying all base seen n script s replies rest → IsPlaying all base (seen ++ new) n script s replies rest
  playing_other base seen new n m script s replies rest mine d p =
      let none = none_other n m new mine d in
      record {
        told = p.told;
        going = record {
          now = p.going.now;
          goes = λ later. ap (λ l. own_from (machine_at all base) n [] fresh (l ++ later) script) (seen_views n seen new none) ∙ p.going.goes later;
          holds = p.going.holds;
          knows = knows_later base seen (seen ++ new) s (new, refl) p.going.knows;
          given = ap given_at (seen_places n seen new none) ∙ p.going.given;
        };
        number = p.number;
        replies_are = p.replies_are;
        count = ap (λ l. length l + shared_calls is_shared rest) (filter-append (λ (i : Item). session_of i == n) seen new ∙ (ap (λ l. own session_of n seen ++ l) none ∙ append-nil (own session_of n seen))) ∙ p.count;
      }

  playing_local : (base : RowState) (h k : HallState RowState) (n : ℕ) (script : List Call) (s t : SessionState) (replies : List Reply) (c : Call) (rest : List Call) (r : Reply) → is_shared c ≡ false → DidLocal all h k s t c r
      → IsPlaying all base h.items n script s replies (c ∷ rest) → IsPlaying all base h.items n script t (replies ++ r ∷ []) rest
  playing_local base h k n script s t replies c rest r sh did p = record {
    told = _;
    going = going_local all base n script h.items s t p.told c rest r p.going sh did.has did.reply did.pin;
    number = did.number ∙ p.number;
    replies_are = ap (λ l. l ++ r ∷ []) p.replies_are ∙ sym (replies_more p.told _);
    count = let a = p.count in let b = calls_shared c rest false sh in omega arith;
  }

  module _ (h k : HallState RowState) (n : ℕ) (script : List Call) (s t : SessionState) (replies : List Reply) (c : Call) (rest : List Call) (r : Reply) (over : h.base.library ≡ all.library)
      (sh : is_shared c ≡ true) (did : DidShared all h k s t c r) (p : IsPlaying all h.base h.items n script s replies (c ∷ rest)) where
    abbrev e : Item
    e = item (record { session = s.number; act = did.act }) did.row

    k_items : k.items ≡ h.items ++ e ∷ []
    k_items = ap (λ (x : HallState RowState). x.items) did.entry

    k_base : k.base ≡ h.base
    k_base = ap (λ (x : HallState RowState). x.base) did.entry

    playing_here : IsPlaying all h.base (h.items ++ e ∷ []) n script t (replies ++ r ∷ []) rest
    playing_here =
        let rows_k : rows k ≡ rows_at h.base (h.items ++ e ∷ []) = λ i. k_base i ∷ rows_of (k_items i) in
        let is : (e.entry.session == n) ≡ true = ap (λ m. m == n) p.number ∙ same_number n in
        let ev : Event Call Reply Version = record { session = n; call = c; reply = r; gives = (act_on all (rows h) s c).gives } in
        record {
          told = p.told ++ ev ∷ [];
          going = going_turn all h.base n script h.items s t p.told c rest r p.going over sh h.items e (act_on all (rows h) s c) ([], sym (append-nil h.items)) refl p.number refl did.gives
              (subst (λ rs. Finishes s t (act_on all (rows h) s c) rs r) rows_k did.ends)
              (subst (λ (q : RowState × List Item). Chain IsAfter q.0 (rows_of q.1)) (λ i. (k_base i, k_items i)) did.chain)
              (knows_later h.base h.items (h.items ++ e ∷ []) s (e ∷ [], refl));
          number = did.ends.number ∙ p.number;
          replies_are = ap (λ l. l ++ r ∷ []) p.replies_are ∙ sym (replies_more p.told ev);
          count =
              let a = p.count in
              let b = calls_shared c rest true sh in
              let l : length (own session_of n (h.items ++ e ∷ [])) ≡ length (own session_of n h.items) + 1 = ap length (filter-append (λ (i : Item). session_of i == n) h.items (e ∷ []) ∙ ap (λ b. own session_of n h.items ++ cond b (e ∷ []) []) is) ∙ length-append (own session_of n h.items) (e ∷ []) in
              omega arith;
        }

    playing_turn : IsPlaying all h.base k.items n script t (replies ++ r ∷ []) rest
    playing_turn = subst (λ l. IsPlaying all h.base l n script t (replies ++ r ∷ []) rest) (sym k_items) playing_here

  playing_by : (b : Bool) (h k : HallState RowState) (n : ℕ) (script : List Call) (s t : SessionState) (replies : List Reply) (c : Call) (rest : List Call) (r : Reply) → h.base.library ≡ all.library
      → is_shared c ≡ b → Did b all h k s t c r → IsPlaying all h.base h.items n script s replies (c ∷ rest) → IsPlaying all h.base k.items n script t (replies ++ r ∷ []) rest
  playing_by true h k n script s t replies c rest r over sh did p = playing_turn h k n script s t replies c rest r over sh did p
  playing_by false h k n script s t replies c rest r over sh did p =
      subst (λ (x : HallState RowState). IsPlaying all h.base x.items n script t (replies ++ r ∷ []) rest) (sym did.same) (playing_local h.base h k n script s t replies c rest r sh did p)

  -- a session goes on by a call
  pub playing_on : (h k : HallState RowState) (n : ℕ) (script : List Call) (s t : SessionState) (replies : List Reply) (c : Call) (rest : List Call) (r : Reply) → h.base.library ≡ all.library
      → Did (is_shared c) all h k s t c r → IsPlaying all h.base h.items n script s replies (c ∷ rest) → IsPlaying all h.base k.items n script t (replies ++ r ∷ []) rest
  playing_on h k n script s t replies c rest r over did p = playing_by (is_shared c) h k n script s t replies c rest r over refl did p

  -- before the first call
  pub playing_first : (base : RowState) (n : ℕ) (script : List Call) (s : SessionState) (replies : List Reply) → s ≡ record { number = n; pin = None; draft = [] } → replies ≡ [] → IsPlaying all base [] n script s replies script
  playing_first base n script s replies new none =
      let pin : s.pin ≡ None = ap (λ (s : SessionState). s.pin) new in
      record {
        told = [];
        going = record {
          now = [];
          goes = λ later. (λ i. own_from (machine_at all base) n [] (holding_of (sym new i)) later script);
          holds = ap (λ (p : Option (ℕ × RowState)). pinned (nets_at all base []) (record { pin = option_map (λ q. q.0) p; draft = [] })) pin ∙ sym (ap (λ (p : Option (ℕ × RowState)). option_map (λ q. q.1.netlist) p) pin);
          knows = subst (λ (p : Option (ℕ × RowState)). MatchOption p ⊤ (λ q. slice_get (rows_at base []) q.0 ≡ Some q.1)) (sym pin) tt;
          given = refl;
        };
        number = ap (λ (s : SessionState). s.number) new;
        replies_are = none;
        count = omega arith;
      }

-- what a call does to the hall
pub plays_shared : (h k : HallState RowState) (number : ℕ) (a : HallAct) (row : Option RowState) → k ≡ noted h number a row → 0 < h.room → Plays h k number
plays_shared h k number a row note room =
    let e : Item = item (record { session = number; act = a }) row in
    let items : k.items ≡ h.items ++ e ∷ [] = ap (λ (x : HallState RowState). x.items) note in
    let left : k.room ≡ h.room - 1 = ap (λ (x : HallState RowState). x.room) note in
    let l : length k.items ≡ length h.items + 1 = ap length items ∙ length-append h.items (e ∷ []) in
    record { base = ap (λ (x : HallState RowState). x.base) note; kept = omega arith; new = e ∷ []; items = items; mine = (refl, tt) }

pub plays_local : (h : HallState RowState) (number : ℕ) → Plays h h number
plays_local h number = record { base = refl; kept = refl; new = []; items = sym (append-nil h.items); mine = tt }

-- what was answered is what was done
pub did_shared : {E : Type 0} (all : Analyses) (h k : HallState RowState) (s t : SessionState) (c : Call) (wants : Ready) (answer : Result Reply E) → Entered s (act_on all (rows h) s c) h k wants → Chain IsAfter k.base (rows_of k.items)
    → IfOk answer (λ r. Finishes s t (act_on all (rows h) s c) (rows k) r) → IfOk answer (DidShared all h k s t c)
did_shared all h k s t c wants (Err e) entered chain ends = tt
did_shared all h k s t c wants (Ok r) entered chain ends = record { act = noted_act s wants; row = entered.row; entry = entered.entry; gives = entered.gives; ends = ends; chain = chain }

pub did_by : {E : Type 0} (b : Bool) (all : Analyses) (h k : HallState RowState) (s t : SessionState) (c : Call) (answer : Result Reply E) → b ≡ true → IfOk answer (DidShared all h k s t c) → IfOk answer (Did b all h k s t c)
did_by true all h k s t c answer is did = did
did_by false all h k s t c answer is did = absurd (cc)

pub did_local : {E : Type 0} (b : Bool) (all : Analyses) (h : HallState RowState) (s t : SessionState) (c : Call) (answer : Result Reply E) → b ≡ false → IfOk answer (λ r. r ≡ (local_by all s c).1) → OnOk answer (holding_of t ≡ (local_by all s c).0)
    → t.pin ≡ s.pin → t.number ≡ s.number → IfOk answer (Did b all h h s t c)
did_local true all h s t c answer is reply has pin number = absurd (cc)
did_local false all h s t c (Err e) is reply has pin number = tt
did_local false all h s t c (Ok r) is reply has pin number = record { same = refl; reply = reply; has = has; pin = pin; number = number }
