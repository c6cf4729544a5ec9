-- Each step keeps the rule.
use Rattle.std.proofs.Common.{◌≡◌, ◌≢◌, ℕ, zero, suc, ◌+◌, ◌%◌, ◌^◌, ◌<◌, ◌≤◌, List, [], ◌∷◌, set, get_or, Option, Some, refl, sym, ap, ◌∙◌, subst, inl, inr, ⊎_elim, arith}
use Rattle.std.proofs.Math.Nat.{mod-eq_of_lt}
use mathlib.Core.Logic.{dite}
use mathlib.Core.Option as maybe
use mathlib.Core.Option.{some, none, some-injective, some-ne-none}
use native.Mathlib.Decide.{ℕ_discrete}
use lib.ListN.{get_elem?}
use Rattle.atomic_table.specs.Table.{State, Me, Act, step, keeps, takes, stepped, Allows, Valid, carried_after}
use Rattle.atomic_table.proofs.Lists.{at_set, set_again}
use Rattle.turn_book.specs.declared.view.View.{View}
use Rattle.turn_book.specs.declared.view.Stage.{Stage}
use Rattle.turn_book.specs.declared.view.Stage.TheVariants.{Idle, Waits, Out, Placed}
use Rattle.turn_book.specs.declared.view.Role.{Role}
use Rattle.turn_book.specs.declared.view.Role.TheVariants.{Opening, Session, Spent}
use Rattle.turn_book.specs.Views.{total_of, one_if, waits_at, waits, is_out, staged}
use Rattle.turn_book.specs.Rule.{has, AtStage, FitsSession, FitsOpening, IsRight, state_of, Holds}
use Rattle.turn_book.specs.Steps.{Begins, drew, looked}
use Rattle.turn_book.proofs.Sums.{total_set, total_at, total_two, total_find, total_le, one_same, one_other}

opening_is_no_session : (r : Role) → r ≡ Opening → r ≡ Session → ⊥
opening_is_no_session r p q = absurd (cc)

pub spent_is_no_session : (r : Role) → r ≡ Spent → r ≡ Session → ⊥
spent_is_no_session r p q = absurd (cc)

module _ {E : Type 0} where
  waits_same : (k j : ℕ) (st : Stage E) → st ≡ Idle → (waits_at k st ≡ 0) × (waits st ≡ 0) × (is_out st ≡ 0)
  waits_same k j st e = (ap (waits_at k) e, ap waits e, ap is_out e)

  -- a stage with a ticket
  has_ticket : (k : ℕ) (st : Stage E) → 0 < waits_at k st → waits st ≡ 1
  has_ticket k Idle h = absurd (omega arith)
  has_ticket k (Waits i) h = refl
  has_ticket k (Out i l) h = refl
  has_ticket k (Placed i l) h = refl

module _ {V O E : Type 0} (origin : V → O) (entries : V → List E) (session : E → ℕ) (o : O) (total : ℕ) where
  abbrev W : Type 0
  W = View O E

  abbrev St : Type 0
  St = State (Option V) W

  abbrev K : St → Type 0
  K = Holds origin entries session o total

  abbrev R : ℕ → ℕ → ℕ → maybe.Option (Option V) → List E → W → List W → Type 0
  R = IsRight origin entries session o total

  abbrev F : ℕ → ℕ → ℕ → List E → W → Type 0
  F = FitsSession origin entries session o total

  abbrev At : ℕ → ℕ → ℕ → List E → W → Stage E → Type 0
  At = AtStage origin entries session o total

  abbrev at_state : ℕ → ℕ → ℕ → maybe.Option (Option V) → W → List W → St
  at_state = state_of origin entries session o total

  pub kept : (d s c : ℕ) (h : maybe.Option (Option V)) (log : List E) (top : W) (others : List W) → R d s c h log top others → K (at_state d s c h top others)
  kept d s c h log top others r = record { drawn = d; serving = s; count = c; home = h; log = log; top = top; others = others; words_are = refl; homes_are = refl; views_are = refl; ruled = r }

  -- what holds of every state that is written out holds of every state under the rule
  pub on : (P : St → Type 0) → ((d s c : ℕ) (h : maybe.Option (Option V)) (log : List E) (top : W) (others : List W) → R d s c h log top others → P (at_state d s c h top others)) → (x : St) → K x → P x
  on P f x k =
      let same : x ≡ at_state k.drawn k.serving k.count k.home k.top k.others = λ i. record { words = k.words_are i; homes = k.homes_are i; views = k.views_are i } in
      subst P (sym same) (f k.drawn k.serving k.count k.home k.log k.top k.others k.ruled)

  pub at_session : (log : List E) (top : W) (others : List W) (id : ℕ) (v : W) → FitsOpening origin entries session o total log top → v.role ≡ Session → get_elem? (top ∷ others) id ≡ some v → (j : ℕ) × (id ≡ suc j) × (get_elem? others j ≡ some v)
  at_session log top others zero v t s e = absurd (opening_is_no_session v.role (ap (λ (w : W). w.role) (sym (some-injective top v e)) ∙ t.is) s)
  at_session log top others (suc j) v t s e = (j, refl, e)

  pub at_top : (d s c : ℕ) (log : List E) (top : W) (others : List W) (id : ℕ) (v : W) → ((j : ℕ) (w : W) → get_elem? others j ≡ some w → F d s c log w) → v.role ≡ Opening → get_elem? (top ∷ others) id ≡ some v → (id ≡ 0) × (top ≡ v)
  at_top d s c log top others zero v each r e = (refl, some-injective top v e)
  at_top d s c log top others (suc j) v each r e = absurd ((each j v e).other r)

  pub each_set : (d s c d' s' c' : ℕ) (log log' : List E) (others : List W) (j : ℕ) (w : W) → ((i : ℕ) (v : W) → get_elem? others i ≡ some v → F d s c log v)
      → ((i : ℕ) (v : W) → i ≢ j → get_elem? others i ≡ some v → F d s c log v → F d' s' c' log' v) → F d' s' c' log' w → (i : ℕ) (v : W) → get_elem? (set others j w) i ≡ some v → F d' s' c' log' v
  each_set d s c d' s' c' log log' others j w each more mine i v e = ⊎_elim
      (λ (t : (i ≡ j) × (w ≡ v)). subst (F d' s' c' log') t.1 mine)
      (λ (t : (i ≢ j) × (get_elem? others i ≡ some v)). more i v t.0 t.1 (each i v t.1))
      (at_set others j i w v e)

  waits_le : (d s c : ℕ) (log : List E) (v : W) (st : Stage E) → At d s c log v st → waits st ≤ v.left
  waits_le d s c log v Idle a = omega arith
  waits_le d s c log v (Waits k) a = omega arith
  waits_le d s c log v (Out k l) a = omega arith
  waits_le d s c log v (Placed k l) a = omega arith

  later_at : (d s c : ℕ) (log : List E) (v : W) (st : Stage E) → At d s c log v st → At (d + 1) s c log v st
  later_at d s c log v Idle a = tt
  later_at d s c log v (Waits k) a = (a.0, a.1, omega arith)
  later_at d s c log v (Out k l) a = (a.0, a.1, omega arith, a.3, a.4)
  later_at d s c log v (Placed k l) a = (a.0, a.1, omega arith, a.3, a.4)

  -- the seat that draws has a turn left, so the next ticket is at most the total
  draw_room : (d s c : ℕ) (h : maybe.Option (Option V)) (log : List E) (top : W) (others : List W) (r : R d s c h log top others) (j : ℕ) (v : W) → get_elem? others j ≡ some v → v.stage ≡ Idle → 1 ≤ v.left → d + 1 ≤ total
  draw_room d s c h log top others r j v e idle left =
      let w : W = staged v (Waits d) in
      let a = total_set (λ (u : W). waits u.stage) others j v w e in
      let b = total_set (λ (u : W). u.left) others j v w e in
      let z : waits v.stage ≡ 0 = ap waits idle in
      let le = total_le (λ (u : W). waits u.stage) (λ (u : W). u.left) (set others j w) (λ i u t. ⊎_elim
      (λ (x : (i ≡ j) × (w ≡ u)). subst (λ (y : W). waits y.stage ≤ y.left) x.1 left)
      (λ (x : (i ≢ j) × (get_elem? others i ≡ some u)). waits_le d s c log u u.stage (r.each i u x.1).at)
      (at_set others j i w u t)) in
      let p = r.waiting in let q = r.spare in omega arith

  -- the ticket after one is drawn
  draw_ruled : (d s c : ℕ) (h : maybe.Option (Option V)) (log : List E) (top : W) (others : List W) (r : R d s c h log top others) (j : ℕ) (v : W) → get_elem? others j ≡ some v → v.role ≡ Session → v.stage ≡ Idle → 1 ≤ v.left
      → R (d + 1) s c h log top (set others j (staged v (Waits d)))
  draw_ruled d s c h log top others r j v e sess idle left =
      let w : W = staged v (Waits d) in
      let fits = r.each j v e in
      let behind : s ≤ d = (let p = r.waiting in omega arith) in
      record {
        small = r.small;
        long = r.long;
        tickets = λ k. let a = total_set (λ (u : W). waits_at k u.stage) others j v w e in let z : waits_at k v.stage ≡ 0 = ap (waits_at k) idle in let t = r.tickets k in
            dite (ℕ_discrete d k) (λ is. let one : one_if d k ≡ 1 = one_same d k is in (omega arith, omega arith, omega arith)) (λ no. let one : one_if d k ≡ 0 = one_other d k no in ((λ x y. omega arith), omega arith, omega arith));
        waiting = let a = total_set (λ (u : W). waits u.stage) others j v w e in let z : waits v.stage ≡ 0 = ap waits idle in let p = r.waiting in omega arith;
        spare = let a = total_set (λ (u : W). u.left) others j v w e in let p = r.spare in omega arith;
        numbers = λ k pos. let a = total_set (has k) others j v w e in let t = r.numbers k pos in ((λ x y. omega arith), omega arith, omega arith);
        known = r.known;
        tops = r.tops;
        each = each_set d s c (d + 1) s c log log others j w r.each
            (λ i u _ _ f. record { same = f.same; other = f.other; rests = f.rests; named = f.named; begins = f.begins; mine = f.mine; at = later_at d s c log u u.stage f.at })
            record { same = fits.same; other = fits.other; rests = (λ q. absurd (spent_is_no_session v.role q sess)); named = fits.named; begins = fits.begins; mine = fits.mine; at = (left, behind, omega arith) };
        at_home = let a = total_set (λ (u : W). is_out u.stage) others j v w e in let z : is_out v.stage ≡ 0 = ap is_out idle in
            ⊎_elim (λ t. inl (omega arith, t.1, t.2)) (λ t. inr (omega arith, t.1)) r.at_home;
      }

  pub draws : (slots id : ℕ) (me : Me (Option V) W) → me.0.role ≡ Session → me.0.stage ≡ Idle → 1 ≤ me.0.left → Allows K slots id me 1 (λ n. (n + 1) % 2 ^ 64) (drew (step slots 1 1 0 none) me)
  draws slots id me sess idle left x k _ at small = on
      (λ y. get_elem? y.views id ≡ some me.0 → (w : W) × (a : Act (Option V)) × Valid y.homes me.1 a × K (stepped y 1 ((get_or y.words 1 0 + 1) % 2 ^ 64) id me.1 w a) × drew (step slots 1 1 0 none) me (get_or y.words 1 0) (w, carried_after me.1 a))
      (λ d s c h log top others r e.
      let t = at_session log top others id me.0 r.tops sess e in
      let w : W = staged me.0 (Waits d) in
      let room = draw_room d s c h log top others r t.0 me.0 t.2 idle left in
      let below : d + 1 < 2 ^ 64 = (let sm = r.small in omega arith) in
      let num : (d + 1) % 2 ^ 64 ≡ d + 1 = mod-eq_of_lt below in (
        w,
        keeps,
        tt,
        subst (λ (y : ℕ × ℕ). K (stepped (at_state d s c h top others) 1 y.0 y.1 me.1 w keeps)) (λ i. (sym num i, sym t.1 i)) (kept (d + 1) s c h log top (set others t.0 w) (draw_ruled d s c h log top others r t.0 me.0 t.2 sess idle left)),
        refl,
      ))
      x k at

  -- a turn that is out has the ticket that is served
  out_ticket : (d s c : ℕ) (log : List E) (v : W) (st : Stage E) → At d s c log v st → 0 < is_out st → waits_at s st ≡ 1
  out_ticket d s c log v Idle a h = absurd (omega arith)
  out_ticket d s c log v (Waits k) a h = absurd (omega arith)
  out_ticket d s c log v (Out k l) a h = one_same k s a.1
  out_ticket d s c log v (Placed k l) a h = one_same k s a.1

  -- no other seat has the ticket that is served
  pub ticket_apart : (d s c : ℕ) (h : maybe.Option (Option V)) (log : List E) (top : W) (others : List W) (r : R d s c h log top others) (i j : ℕ) (u v : W) → i ≢ j → get_elem? others i ≡ some u → get_elem? others j ≡ some v → s < d → waits_at s v.stage ≡ 1 → waits_at s u.stage ≡ 0
  ticket_apart d s c h log top others r i j u v n e e' lt one = let two = total_two (λ (w : W). waits_at s w.stage) others i j u v n e e' in let t = r.tickets s in omega arith

  pub at_waits : (d s c : ℕ) (log : List E) (v : W) (k : ℕ) → F d s c log v → v.stage ≡ Waits k → (1 ≤ v.left) × (s ≤ k) × (k < d)
  at_waits d s c log v k f e = subst (At d s c log v) e f.at

  pub at_out : (d s c : ℕ) (log : List E) (v : W) (k : ℕ) (l : List E) → F d s c log v → v.stage ≡ Out k l → (1 ≤ v.left) × (k ≡ s) × (s < d) × (l ≡ log) × (c ≡ s)
  at_out d s c log v k l f e = subst (At d s c log v) e f.at

  pub at_placed : (d s c : ℕ) (log : List E) (v : W) (k : ℕ) (l : List E) → F d s c log v → v.stage ≡ Placed k l → (1 ≤ v.left) × (k ≡ s) × (s < d) × (l ≡ log) × (c ≡ s + 1)
  at_placed d s c log v k l f e = subst (At d s c log v) e f.at

  -- the value is at home where a seat waits with the ticket that is served
  home_for : (d s c : ℕ) (h : maybe.Option (Option V)) (log : List E) (top : W) (others : List W) (r : R d s c h log top others) (j : ℕ) (v : W) → get_elem? others j ≡ some v → (k : ℕ) → v.stage ≡ Waits k → s ≡ k
      → (total_of (λ (u : W). is_out u.stage) others ≡ 0) × (c ≡ s) × ((x : V) × (h ≡ some (Some x)) × (origin x ≡ o) × (entries x ≡ log))
  home_for d s c h log top others r j v e k st is = ⊎_elim (λ t. t)
      (λ (t : (total_of (λ (u : W). is_out u.stage) others ≡ 1) × (h ≡ none)).
      let f = total_find (λ (u : W). is_out u.stage) others (let z = t.0 in omega arith) in
      let i = f.0 in let u = f.1 in
      let apart : i ≢ j = λ same. (let uv : u ≡ v = some-injective u v (sym f.2 ∙ (ap (get_elem? others) same ∙ e)) in let z : is_out u.stage ≡ 0 = ap (λ (w : W). is_out w.stage) uv ∙ ap is_out st in let p = f.3 in omega arith) in
      let a = at_waits d s c log v k (r.each j v e) st in
      let mine : waits_at s v.stage ≡ 1 = ap (waits_at s) st ∙ one_same k s (sym is) in
      let none_there = ticket_apart d s c h log top others r i j u v apart f.2 e (omega arith) mine in
      let one = out_ticket d s c log u u.stage (r.each i u f.2).at f.3 in
      absurd (omega arith))
      r.at_home

  look_ruled : (d s c : ℕ) (h : maybe.Option (Option V)) (log : List E) (top : W) (others : List W) (r : R d s c h log top others) (j : ℕ) (v : W) → get_elem? others j ≡ some v → v.role ≡ Session → (k : ℕ) → v.stage ≡ Waits k → s ≡ k
      → R d s c none log top (set others j (staged v (Out k log)))
  look_ruled d s c h log top others r j v e sess k st is =
      let w : W = staged v (Out k log) in
      let fits = r.each j v e in
      let a = at_waits d s c log v k fits st in
      let home = home_for d s c h log top others r j v e k st is in
      record {
        small = r.small;
        long = r.long;
        tickets = λ n. let b = total_set (λ (u : W). waits_at n u.stage) others j v w e in let z : waits_at n v.stage ≡ one_if k n = ap (waits_at n) st in let t = r.tickets n in ((λ x y. omega arith), omega arith, omega arith);
        waiting = let b = total_set (λ (u : W). waits u.stage) others j v w e in let z : waits v.stage ≡ 1 = ap waits st in let p = r.waiting in omega arith;
        spare = let b = total_set (λ (u : W). u.left) others j v w e in let p = r.spare in omega arith;
        numbers = λ n pos. let b = total_set (has n) others j v w e in let t = r.numbers n pos in ((λ x y. omega arith), omega arith, omega arith);
        known = r.known;
        tops = r.tops;
        each = each_set d s c d s c log log others j w r.each (λ i u _ _ f. f)
            record { same = fits.same; other = fits.other; rests = (λ q. absurd (spent_is_no_session v.role q sess)); named = fits.named; begins = fits.begins; mine = fits.mine; at = (a.0, sym is, omega arith, refl, home.1) };
        at_home = let b = total_set (λ (u : W). is_out u.stage) others j v w e in let z : is_out v.stage ≡ 0 = ap is_out st in let y = home.0 in inr (omega arith, refl);
      }

  begins_at : (d s c : ℕ) (h : maybe.Option (Option V)) (log : List E) (top : W) (others : List W) (r : R d s c h log top others) (j : ℕ) (v : W) → get_elem? others j ≡ some v → v.role ≡ Session → 1 ≤ v.left → c ≡ s → (x : V) → origin x ≡ o → entries x ≡ log
      → Begins origin entries session v x log
  begins_at d s c h log top others r j v e sess left even x orig ent =
      let fits = r.each j v e in
      let left_there = total_at (λ (u : W). u.left) others j v e in
      let all = (fits.same sess).1 in
      record {
        origin_is = (fits.same sess).0 ∙ ap Some (sym orig);
        list_is = ent;
        room = let sp = r.spare in let lo = r.long in omega arith;
        more = fits.begins;
        mine = (fits.mine sess).0;
      }

  pub stays : (d s c : ℕ) (h : maybe.Option (Option V)) (log : List E) (top : W) (others : List W) (r : R d s c h log top others) (id : ℕ) (v : W) → get_elem? (top ∷ others) id ≡ some v
      → K record { words = 0 ∷ d ∷ s ∷ c ∷ []; homes = h ∷ []; views = set (top ∷ others) id v }
  stays d s c h log top others r id v e = subst (λ (l : List W). K record { words = 0 ∷ d ∷ s ∷ c ∷ []; homes = h ∷ []; views = l }) (sym (set_again (top ∷ others) id v e)) (kept d s c h log top others r)

  pub looks : (slots id : ℕ) (me : Me (Option V) W) → me.0.role ≡ Session → (k : ℕ) → me.0.stage ≡ Waits k → Allows K slots id me 2 (λ n. n) (looked origin entries session (step slots 2 0 0 none) me)
  looks slots id me sess k st x kk _ at small = on
      (λ y. get_elem? y.views id ≡ some me.0 → (w : W) × (a : Act (Option V)) × Valid y.homes me.1 a × K (stepped y 2 (get_or y.words 2 0) id me.1 w a) × looked origin entries session (step slots 2 0 0 none) me (get_or y.words 2 0) (w, carried_after me.1 a))
      (λ d s c h log top others r e. dite (ℕ_discrete s k)
      (λ is.
      let t = at_session log top others id me.0 r.tops sess e in
      let w : W = staged me.0 (Out k log) in
      let home = home_for d s c h log top others r t.0 me.0 t.2 k st is in
      let v = home.2.0 in (
        w,
        takes 0 (Some v),
        ap some home.2.1,
        subst (λ (y : ℕ). K (stepped (at_state d s c h top others) 2 s y me.1 w (takes 0 (Some v)))) (sym t.1) (kept d s c none log top (set others t.0 w) (look_ruled d s c h log top others r t.0 me.0 t.2 sess k st is)),
        (λ k' st'. let same : k ≡ k' = cc in (
          (λ no. absurd (no (is ∙ same))),
          (λ _. (
            v,
            log,
            (λ i. (staged me.0 (Out (same i) log), (0, Some v) ∷ me.1)),
            begins_at d s c h log top others r t.0 me.0 t.2 sess (at_waits d s c log me.0 k (r.each t.0 me.0 t.2) st).0 home.1 v home.2.2 home.2.3,
          )),
        )),
      ))
      (λ no. (
        me.0,
        keeps,
        tt,
        stays d s c h log top others r id me.0 e,
        (λ k' st'. let same : k ≡ k' = cc in ((λ _. refl), (λ yes. absurd (no (yes ∙ sym same))))),
      )))
      x kk at
