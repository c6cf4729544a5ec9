-- The steps that end a turn.
use Rattle.std.proofs.Common.{◌≡◌, ◌≢◌, ℕ, ◌+◌, ◌%◌, ◌^◌, ◌<◌, ◌≤◌, List, [], ◌∷◌, ◌++◌, length, set, get_or, Option, Some, refl, sym, ap, ◌∙◌, subst, inl, inr, ⊎_elim, arith, length-append}
use Rattle.std.proofs.Math.Nat.{mod-eq_of_lt}
use mathlib.Core.Logic.{dite}
use mathlib.Core.Option as maybe
use mathlib.Core.Option.{some, none}
use native.Mathlib.Decide.{ℕ_discrete}
use lib.ListN.{get_elem?}
use Rattle.atomic_table.specs.Table.{State, Me, Act, step, keeps, gives, stepped, Allows, Valid, carried_after}
use Rattle.std.specs.List.{AllByRecursion}
use Rattle.turn_book.specs.declared.view.View.{View}
use Rattle.turn_book.specs.declared.view.Ended.{Ended}
use Rattle.turn_book.specs.declared.view.Stage.{Stage}
use Rattle.turn_book.specs.declared.view.Stage.TheVariants.{Idle, Waits, Out, Placed}
use Rattle.turn_book.specs.declared.view.Role.TheVariants.{Session}
use Rattle.turn_book.specs.Views.{total_of, one_if, waits_at, waits, is_out, own, times_ended, placing, served}
use Rattle.turn_book.specs.Rule.{has, AtStage, FitsSession, IsRight, state_of, Holds}
use Rattle.turn_book.specs.Steps.{placed, ended_turn}
use Rattle.turn_book.proofs.Sums.{total_set, total_at, total_two, one_same, one_other, count_most, count_within}
use Rattle.turn_book.proofs.Prefixes.{starts_self, starts_more, every_append, own_snoc_same, own_snoc_other}
use Rattle.turn_book.proofs.Steps.{kept, on, at_session, each_set, ticket_apart, at_out, at_placed, spent_is_no_session}

module _ {V O E : Type 0} (origin : V → O) (entries : V → List E) (session : E → ℕ) (o : O) (total : ℕ) where
  abbrev W : Type 0
  W = View O E

  abbrev St : Type 0
  St = State (Option V) W

  abbrev K : St → Type 0
  K = Holds origin entries session o total

  abbrev R : ℕ → ℕ → ℕ → maybe.Option (Option V) → List E → W → List W → Type 0
  R = IsRight origin entries session o total

  abbrev F : ℕ → ℕ → ℕ → List E → W → Type 0
  F = FitsSession origin entries session o total

  abbrev At : ℕ → ℕ → ℕ → List E → W → Stage E → Type 0
  At = AtStage origin entries session o total

  abbrev at_state : ℕ → ℕ → ℕ → maybe.Option (Option V) → W → List W → St
  at_state = state_of origin entries session o total

  -- no other session has the number
  number_apart : (d s c : ℕ) (h : maybe.Option (Option V)) (log : List E) (top : W) (others : List W) (r : R d s c h log top others) (i j : ℕ) (u v : W) → i ≢ j → get_elem? others i ≡ some u → get_elem? others j ≡ some v → 1 ≤ v.number → u.number ≢ v.number
  number_apart d s c h log top others r i j u v n e e' pos same =
      let two = total_two (has v.number) others i j u v n e e' in
      let one : has v.number u ≡ 1 = one_same u.number v.number same in
      let one' : has v.number v ≡ 1 = one_same v.number v.number refl in
      let most = count_most 1 (top.given + 1) v.number (times_ended v.number top.ended + total_of (has v.number) others) (r.numbers v.number pos) in absurd (omega arith)

  -- the number of a session is given, and not ended
  number_given : (d s c : ℕ) (h : maybe.Option (Option V)) (log : List E) (top : W) (others : List W) (r : R d s c h log top others) (j : ℕ) (v : W) → get_elem? others j ≡ some v → 1 ≤ v.number → (v.number ≤ top.given) × (times_ended v.number top.ended ≡ 0)
  number_given d s c h log top others r j v e pos =
      let there = total_at (has v.number) others j v e in
      let one' : has v.number v ≡ 1 = one_same v.number v.number refl in
      let most = count_most 1 (top.given + 1) v.number (times_ended v.number top.ended + total_of (has v.number) others) (r.numbers v.number pos) in
      let below = count_within 1 (top.given + 1) v.number (times_ended v.number top.ended + total_of (has v.number) others) (r.numbers v.number pos) (omega arith) in
      ((let b = below.1 in omega arith), omega arith)

  -- what stays of another seat where the list gets one more entry
  place_at : (d s c : ℕ) (log log' : List E) (v : W) (st : Stage E) → waits_at s st ≡ 0 → At d s c log v st → At d s (c + 1) log' v st
  place_at d s c log log' v Idle n a = tt
  place_at d s c log log' v (Waits k) n a = a
  place_at d s c log log' v (Out k l) n a = absurd (let one = one_same k s a.1 in omega arith)
  place_at d s c log log' v (Placed k l) n a = absurd (let one = one_same k s a.1 in omega arith)

  -- what stays of another seat where the next ticket is served
  serve_at : (d s c : ℕ) (log : List E) (v : W) (st : Stage E) → waits_at s st ≡ 0 → At d s c log v st → At d (s + 1) c log v st
  serve_at d s c log v Idle n a = tt
  serve_at d s c log v (Waits k) n a = let other : k ≢ s = λ e. (let one = one_same k s e in omega arith) in (a.0, omega arith, a.2)
  serve_at d s c log v (Out k l) n a = absurd (let one = one_same k s a.1 in omega arith)
  serve_at d s c log v (Placed k l) n a = absurd (let one = one_same k s a.1 in omega arith)

  -- the entries of ended numbers stay
  ended_stay : (log seen : List E) (e : E) (pairs : List (Ended E)) → times_ended (session e) pairs ≡ 0
      → AllByRecursion (λ p. (own session p.number log ≡ p.entries) × (own session p.number seen ≡ p.entries)) pairs
      → AllByRecursion (λ p. (own session p.number (log ++ e ∷ []) ≡ p.entries) × (own session p.number seen ≡ p.entries)) pairs
  ended_stay log seen e [] z p = tt
  ended_stay log seen e (x ∷ xs) z p =
      let other : session e ≢ x.number = λ same. (let one = one_same x.number (session e) (sym same) in omega arith) in
      ((own_snoc_other session x.number log x.entries e other p.0.0, p.0.1), ended_stay log seen e xs (omega arith) p.1)

  place_ruled : (d s c : ℕ) (h : maybe.Option (Option V)) (log : List E) (top : W) (others : List W) (r : R d s c h log top others) (j : ℕ) (v : W) → get_elem? others j ≡ some v → v.role ≡ Session → (k : ℕ) (e : E) → v.stage ≡ Out k log → session e ≡ v.number
      → R d s (c + 1) h (log ++ e ∷ []) top (set others j (placing v k log e))
  place_ruled d s c h log top others r j v at sess k e st by =
      let w : W = placing v k log e in
      let log' : List E = log ++ e ∷ [] in
      let fits = r.each j v at in
      let a = at_out origin entries session o total d s c log v k log fits st in
      let given = number_given d s c h log top others r j v at (fits.named sess) in
      let mine : waits_at s v.stage ≡ 1 = ap (waits_at s) st ∙ one_same k s a.1 in
      let tops = r.tops in
      record {
        small = r.small;
        long = let l = r.long in omega (arith, length-append log (e ∷ []));
        tickets = λ n. let b = total_set (λ (u : W). waits_at n u.stage) others j v w at in let z : waits_at n v.stage ≡ one_if k n = ap (waits_at n) st in let t = r.tickets n in ((λ x y. omega arith), omega arith, omega arith);
        waiting = let b = total_set (λ (u : W). waits u.stage) others j v w at in let z : waits v.stage ≡ 1 = ap waits st in let p = r.waiting in omega arith;
        spare = let b = total_set (λ (u : W). u.left) others j v w at in let p = r.spare in omega arith;
        numbers = λ n pos. let b = total_set (has n) others j v w at in let t = r.numbers n pos in ((λ x y. omega arith), omega arith, omega arith);
        known = every_append (λ x. (1 ≤ session x) × (session x ≤ top.given)) log (e ∷ []) r.known (((let p = fits.named sess in omega arith), (let p = given.0 in omega arith)), tt);
        tops = record {
          is = tops.is;
          idle = tops.idle;
          same = tops.same;
          begins = starts_more log top.seen (e ∷ []) tops.begins;
          begun = tops.begun;
          told = tops.told;
          ended = ended_stay log top.seen e top.ended (ap (λ n. times_ended n top.ended) by ∙ given.1) tops.ended;
        };
        each = each_set origin entries session o total d s c d s (c + 1) log log' others j w r.each
            (λ i u apart there f. record {
              same = f.same;
              other = f.other;
              rests = f.rests;
              named = f.named;
              begins = starts_more log u.seen (e ∷ []) f.begins;
              mine = λ us. (own_snoc_other session u.number log u.made e (λ same. number_apart d s c h log top others r i j u v apart there at (fits.named sess) (sym same ∙ by)) (f.mine us).0, (f.mine us).1);
              at = place_at d s c log log' u u.stage (ticket_apart origin entries session o total d s c h log top others r i j u v apart there at a.2 mine) f.at;
            })
            record {
              same = fits.same;
              other = fits.other;
              rests = (λ q. absurd (spent_is_no_session v.role q sess));
              named = fits.named;
              begins = starts_self log';
              mine = λ us. (own_snoc_same session v.number log v.made e by (fits.mine us).0, own_snoc_same session v.number log v.made e by (fits.mine us).0);
              at = (a.0, a.1, a.2, refl, (let q = a.4 in omega arith));
            };
        at_home = let b = total_set (λ (u : W). is_out u.stage) others j v w at in let z : is_out v.stage ≡ 1 = ap is_out st in let m = total_at (λ (u : W). is_out u.stage) others j v at in
            ⊎_elim (λ t. absurd (let q = t.0 in omega arith)) (λ t. inr ((let q = t.0 in omega arith), t.1)) r.at_home;
      }

  pub places : (slots id : ℕ) (me : Me (Option V) W) (entry : Option E) → me.0.role ≡ Session → (k : ℕ) (l : List E) (e : E) → me.0.stage ≡ Out k l → entry ≡ Some e → session e ≡ me.0.number
      → Allows K slots id me 3 (λ n. (n + 1) % 2 ^ 64) (placed entry (step slots 3 1 0 none) me)
  places slots id me entry sess k l e st is by x kk _ at small = on origin entries session o total
      (λ y. get_elem? y.views id ≡ some me.0 → (w : W) × (a : Act (Option V)) × Valid y.homes me.1 a × K (stepped y 3 ((get_or y.words 3 0 + 1) % 2 ^ 64) id me.1 w a) × placed entry (step slots 3 1 0 none) me (get_or y.words 3 0) (w, carried_after me.1 a))
      (λ d s c h log top others r there.
      let t = at_session origin entries session o total log top others id me.0 r.tops sess there in
      let fits = r.each t.0 me.0 t.2 in
      let a = at_out origin entries session o total d s c log me.0 k l fits st in
      let st' : me.0.stage ≡ Out k log = st ∙ ap (Out k) a.3 in
      let w : W = placing me.0 k log e in
      let left = total_at (λ (u : W). u.left) others t.0 me.0 t.2 in
      let below : c + 1 < 2 ^ 64 = (let sm = r.small in let sp = r.spare in let b = a.0 in let q = a.4 in omega arith) in
      let num : (c + 1) % 2 ^ 64 ≡ c + 1 = mod-eq_of_lt below in (
        w,
        keeps,
        tt,
        subst (λ (y : ℕ × ℕ). K (stepped (at_state d s c h top others) 3 y.0 y.1 me.1 w keeps)) (λ i. (sym num i, sym t.1 i))
            (kept origin entries session o total d s (c + 1) h (log ++ e ∷ []) top (set others t.0 w) (place_ruled d s c h log top others r t.0 me.0 t.2 sess k e st' by)),
        (λ k' l' e' st'' is'.
            let kk : k ≡ k' = cc in let ll : log ≡ l' = cc in let ee : e ≡ e' = cc in
            (sym r.long ∙ ap length ll, (λ i. (placing me.0 (kk i) (ll i) (ee i), me.1)))),
      ))
      x kk at

  serve_ruled : (d s c : ℕ) (h : maybe.Option (Option V)) (log : List E) (top : W) (others : List W) (r : R d s c h log top others) (j : ℕ) (v : W) → get_elem? others j ≡ some v → v.role ≡ Session → (k : ℕ) → v.stage ≡ Placed k log → (x : V) → origin x ≡ o → entries x ≡ log
      → R d (s + 1) c (some (Some x)) log top (set others j (served v))
  serve_ruled d s c h log top others r j v at sess k st x orig ent =
      let w : W = served v in
      let fits = r.each j v at in
      let a = at_placed origin entries session o total d s c log v k log fits st in
      let mine : waits_at s v.stage ≡ 1 = ap (waits_at s) st ∙ one_same k s a.1 in
      record {
        small = r.small;
        long = r.long;
        tickets = λ n. let b = total_set (λ (u : W). waits_at n u.stage) others j v w at in let z : waits_at n v.stage ≡ one_if k n = ap (waits_at n) st in let t = r.tickets n in let ks = a.1 in let sd = a.2 in
            dite (ℕ_discrete k n) (λ same. let one = one_same k n same in ((λ p q. omega arith), omega arith, omega arith)) (λ no. let one = one_other k n no in ((λ p q. omega arith), (λ p. dite (ℕ_discrete n s) (λ q. absurd (no (ks ∙ sym q))) (λ q. omega arith)), omega arith));
        waiting = let b = total_set (λ (u : W). waits u.stage) others j v w at in let z : waits v.stage ≡ 1 = ap waits st in let p = r.waiting in omega arith;
        spare = let b = total_set (λ (u : W). u.left) others j v w at in let p = r.spare in let q = a.0 in omega arith;
        numbers = λ n pos. let b = total_set (has n) others j v w at in let t = r.numbers n pos in ((λ x y. omega arith), omega arith, omega arith);
        known = r.known;
        tops = r.tops;
        each = each_set origin entries session o total d s c d (s + 1) c log log others j w r.each
            (λ i u apart there f. record {
              same = f.same;
              other = f.other;
              rests = f.rests;
              named = f.named;
              begins = f.begins;
              mine = f.mine;
              at = serve_at d s c log u u.stage (ticket_apart origin entries session o total d s c h log top others r i j u v apart there at a.2 mine) f.at;
            })
            record { same = fits.same; other = fits.other; rests = (λ q. absurd (spent_is_no_session v.role q sess)); named = fits.named; begins = fits.begins; mine = fits.mine; at = tt };
        at_home = let b = total_set (λ (u : W). is_out u.stage) others j v w at in let z : is_out v.stage ≡ 1 = ap is_out st in let m = total_at (λ (u : W). is_out u.stage) others j v at in
            ⊎_elim (λ t. absurd (let q = t.0 in omega arith)) (λ t. inl ((let q = t.0 in omega arith), a.4, (x, refl, orig, ent))) r.at_home;
      }

  pub serves : (slots id : ℕ) (me : Me (Option V) W) → me.0.role ≡ Session → (k : ℕ) (l : List E) → me.0.stage ≡ Placed k l → (x : V) → me.1 ≡ (0, Some x) ∷ [] → me.0.origin ≡ Some (origin x) → entries x ≡ l
      → Allows K slots id me 2 (λ n. (n + 1) % 2 ^ 64) (ended_turn (step slots 2 1 0 none) me)
  serves slots id me sess k l st v has_it orig ent x kk _ at small = on origin entries session o total
      (λ y. get_elem? y.views id ≡ some me.0 → (w : W) × (a : Act (Option V)) × Valid y.homes me.1 a × K (stepped y 2 ((get_or y.words 2 0 + 1) % 2 ^ 64) id me.1 w a) × ended_turn (step slots 2 1 0 none) me (get_or y.words 2 0) (w, carried_after me.1 a))
      (λ d s c h log top others r there.
      let t = at_session origin entries session o total log top others id me.0 r.tops sess there in
      let fits = r.each t.0 me.0 t.2 in
      let a = at_placed origin entries session o total d s c log me.0 k l fits st in
      let st' : me.0.stage ≡ Placed k log = st ∙ ap (Placed k) a.3 in
      let w : W = served me.0 in
      let orig' : origin v ≡ o = (let q = (fits.same sess).0 in cc) in
      let left = total_at (λ (u : W). u.left) others t.0 me.0 t.2 in
      let below : s + 1 < 2 ^ 64 = (let sm = r.small in let sp = r.spare in let b = a.0 in omega arith) in
      let num : (s + 1) % 2 ^ 64 ≡ s + 1 = mod-eq_of_lt below in (
        w,
        gives,
        tt,
        subst (λ (y : ℕ × ℕ × List (ℕ × Option V)). K (stepped (at_state d s c h top others) 2 y.0 y.1 y.2 w gives)) (λ i. (sym num i, sym t.1 i, sym has_it i))
            (kept origin entries session o total d (s + 1) c (some (Some v)) log top (set others t.0 w) (serve_ruled d s c h log top others r t.0 me.0 t.2 sess k st' v orig' (ent ∙ a.3))),
        λ i. (w, carried_after (has_it i) gives),
      ))
      x kk at
