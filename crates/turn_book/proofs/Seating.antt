-- The opening seat: how a book opens, splits, joins and closes.
use Rattle.std.proofs.Common.{◌≡◌, ◌≢◌, ◌⊎◌, ℕ, ◌+◌, ◌^◌, ◌<◌, ◌≤◌, List, [], ◌∷◌, ◌++◌, set, get_or, Option, Some, refl, sym, ap, ◌∙◌, subst, inl, inr, ⊎_elim, arith}
use Rattle.std.proofs.lemmas.List.{append-nil}
use mathlib.Core.Logic.{dite}
use mathlib.Core.Option as maybe
use mathlib.Core.Option.{some, none, some-injective, some-ne-none}
use native.Mathlib.Decide.{ℕ_discrete}
use lib.ListN.{get_elem?}
use Rattle.atomic_table.specs.Table.{State, Me, Act, step, keeps, stepped, Allows, Splits, Joins, Valid, carried_after, opening as opened, Final, Seen}
use Rattle.atomic_table.proofs.Lists.{at_set, at_snoc}
use Rattle.std.specs.List.{AllByRecursion}
use Rattle.turn_book.specs.declared.view.View.{View}
use Rattle.turn_book.specs.declared.view.Ended.{Ended}
use Rattle.turn_book.specs.declared.view.Stage.TheVariants.{Idle}
use Rattle.turn_book.specs.declared.view.Role.{Role}
use Rattle.turn_book.specs.declared.view.Role.TheVariants.{Opening, Session, Spent}
use Rattle.turn_book.specs.Views.{StartsWith, longer, total_of, one_if, waits_at, waits, is_out, own, times_ended, opening, handing, newcomer, ending, spent, Knows}
use Rattle.turn_book.specs.Rule.{has, FitsSession, FitsOpening, IsRight, state_of, Holds}
use Rattle.turn_book.specs.Steps.{knew}
use Rattle.turn_book.proofs.Sums.{total_set, total_at, total_snoc, total_find, one_same, one_other, count_most, count_within}
use Rattle.turn_book.proofs.Prefixes.{longer_starts, every_append, every_front, every_back, every_map, own_append, own_between, own_after, own_above, own_nil_head, both_nil}
use Rattle.turn_book.proofs.Steps.{kept, on, at_session, at_top, each_set, stays}

module _ {V O E : Type 0} (origin : V → O) (entries : V → List E) (session : E → ℕ) (o : O) (total : ℕ) where
  abbrev W : Type 0
  W = View O E

  abbrev St : Type 0
  St = State (Option V) W

  abbrev K : St → Type 0
  K = Holds origin entries session o total

  abbrev R : ℕ → ℕ → ℕ → maybe.Option (Option V) → List E → W → List W → Type 0
  R = IsRight origin entries session o total

  abbrev F : ℕ → ℕ → ℕ → List E → W → Type 0
  F = FitsSession origin entries session o total

  abbrev at_state : ℕ → ℕ → ℕ → maybe.Option (Option V) → W → List W → St
  at_state = state_of origin entries session o total

  pub opens : (x : V) → origin x ≡ o → entries x ≡ [] → total < 2 ^ 64 → K (opened (0 ∷ 0 ∷ 0 ∷ 0 ∷ []) (Some x ∷ []) (opening o total))
  opens x orig empty below = kept origin entries session o total 0 0 0 (some (Some x)) [] (opening o total) [] record {
    small = below;
    long = refl;
    tickets = λ k. ((λ p q. absurd (omega arith)), (λ _. refl), (λ _. refl));
    waiting = refl;
    spare = omega arith;
    numbers = λ k pos. ((λ p q. absurd (omega arith)), (λ _. refl), (λ _. refl));
    known = tt;
    tops = record { is = refl; idle = refl; same = (refl, refl); begins = ([], refl); begun = ([], refl); told = ([], refl); ended = tt };
    each = λ j v e. absurd (some-ne-none v (sym e));
    at_home = inl (refl, refl, (x, refl, orig, empty));
  }

  -- what the opening view knows by the rule
  pub knows : (log : List E) (top : W) → AllByRecursion (λ e. (1 ≤ session e) × (session e ≤ top.given)) log → FitsOpening origin entries session o total log top → Knows session top
  knows log top known t = record {
    given = every_front (λ e. (1 ≤ session e) × (session e ≤ top.given)) top.seen t.begins.0 (subst (AllByRecursion (λ e. (1 ≤ session e) × (session e ≤ top.given))) t.begins.1 known);
    each = every_map (λ (p : Ended E). (own session p.number log ≡ p.entries) × (own session p.number top.seen ≡ p.entries)) (λ (p : Ended E). own session p.number top.seen ≡ p.entries) top.ended (λ p q. q.1) t.ended;
    begun = t.begun;
    told = t.told;
  }

  pub learns : (slots id : ℕ) (me : Me (Option V) W) → Allows K slots id me 0 (λ n. n) (knew session (step slots 0 0 0 none) me)
  learns slots id me x kk _ at small = on origin entries session o total
      (λ y. get_elem? y.views id ≡ some me.0 → (w : W) × (a : Act (Option V)) × Valid y.homes me.1 a × K (stepped y 0 (get_or y.words 0 0) id me.1 w a) × knew session (step slots 0 0 0 none) me (get_or y.words 0 0) (w, carried_after me.1 a))
      (λ d s c h log top others r e. (
        me.0,
        keeps,
        tt,
        stays origin entries session o total d s c h log top others r id me.0 e,
        (refl, (λ is. let t = at_top origin entries session o total d s c log top others id me.0 r.each is e in subst (Knows session) t.1 (knows log top r.known r.tops))),
      ))
      x kk at

  hand_ruled : (d s c : ℕ) (h : maybe.Option (Option V)) (log : List E) (top : W) (others : List W) (r : R d s c h log top others) (turns : ℕ) → turns ≤ top.left → R d s c h log (handing turns top) (others ++ newcomer turns top ∷ [])
  hand_ruled d s c h log top others r turns le =
      let w : W = newcomer turns top in
      let tops = r.tops in
      let new : own session w.number log ≡ [] = own_above session top.given (top.given + 1) log (omega arith) r.known in
      let parts = both_nil (own session w.number top.seen) (own session w.number tops.begins.0) (sym (own_append session w.number top.seen tops.begins.0) ∙ (ap (own session w.number) (sym tops.begins.1) ∙ new)) in
      record {
        small = r.small;
        long = r.long;
        tickets = λ n. let b = total_snoc (λ (u : W). waits_at n u.stage) others w in let t = r.tickets n in ((λ x y. omega arith), omega arith, omega arith);
        waiting = let b = total_snoc (λ (u : W). waits u.stage) others w in let p = r.waiting in omega arith;
        spare = let b = total_snoc (λ (u : W). u.left) others w in let p = r.spare in omega arith;
        numbers = λ n pos. let b = total_snoc (has n) others w in let t = r.numbers n pos in
            dite (ℕ_discrete (top.given + 1) n) (λ same. let one = one_same (top.given + 1) n same in let z = t.2 (omega arith) in ((λ x y. omega arith), omega arith, omega arith))
            (λ no. let one = one_other (top.given + 1) n no in ((λ x y. let z = t.0 x (omega arith) in omega arith), omega arith, (λ y. let z = t.2 (omega arith) in omega arith)));
        known = every_map (λ e. (1 ≤ session e) × (session e ≤ top.given)) (λ e. (1 ≤ session e) × (session e ≤ top.given + 1)) log (λ e q. (q.0, omega arith)) r.known;
        tops = record { is = tops.is; idle = tops.idle; same = tops.same; begins = tops.begins; begun = tops.begun; told = tops.told; ended = tops.ended };
        each = λ j v e. ⊎_elim (r.each j v)
            (λ (t : w ≡ v). subst (F d s c log) t record { same = λ _. tops.same; other = (λ q. absurd (cc)); rests = (λ q. refl); named = (λ _. omega arith); begins = tops.begins; mine = (λ _. (new, parts.0)); at = tt })
            (at_snoc others w v j e);
        at_home = let b = total_snoc (λ (u : W). is_out u.stage) others w in ⊎_elim (λ t. inl ((let q = t.0 in omega arith), t.1, t.2)) (λ t. inr ((let q = t.0 in omega arith), t.1)) r.at_home;
      }

  pub hands : (id : ℕ) (v : W) (turns : ℕ) → v.role ≡ Opening → turns ≤ v.left → Splits K id v (handing turns v) (newcomer turns v)
  hands id v turns is le x kk at = on origin entries session o total
      (λ y. get_elem? y.views id ≡ some v → K record { words = y.words; homes = y.homes; views = set y.views id (handing turns v) ++ newcomer turns v ∷ [] })
      (λ d s c h log top others r e.
      let t = at_top origin entries session o total d s c log top others id v r.each is e in
      let le' : turns ≤ top.left = subst (λ (u : W). turns ≤ u.left) (sym t.1) le in
      subst (λ (y : ℕ × W). K record { words = 0 ∷ d ∷ s ∷ c ∷ []; homes = h ∷ []; views = set (top ∷ others) y.0 (handing turns y.1) ++ newcomer turns y.1 ∷ [] }) (λ i. (sym t.0 i, t.1 i))
      (kept origin entries session o total d s c h log (handing turns top) (others ++ newcomer turns top ∷ []) (hand_ruled d s c h log top others r turns le')))
      x kk at

  ended_between : (log seen long : List E) (pairs : List (Ended E)) → StartsWith log long → StartsWith long seen
      → AllByRecursion (λ p. (own session p.number log ≡ p.entries) × (own session p.number seen ≡ p.entries)) pairs
      → AllByRecursion (λ p. (own session p.number log ≡ p.entries) × (own session p.number long ≡ p.entries)) pairs
  ended_between log seen long pairs a b p = every_map (λ (q : Ended E). (own session q.number log ≡ q.entries) × (own session q.number seen ≡ q.entries)) (λ (q : Ended E). (own session q.number log ≡ q.entries) × (own session q.number long ≡ q.entries)) pairs
      (λ q t. (t.0, own_between session q.number log long seen q.entries a b t.0 t.1)) p

  end_ruled : (d s c : ℕ) (h : maybe.Option (Option V)) (log : List E) (top : W) (others : List W) (r : R d s c h log top others) (j : ℕ) (v : W) → get_elem? others j ≡ some v → v.role ≡ Session → v.stage ≡ Idle
      → R d s c h log (ending top v) (set others j spent)
  end_ruled d s c h log top others r j v e sess idle =
      let w : W = spent in
      let tops = r.tops in
      let fits = r.each j v e in
      let pair : Ended E = record { number = v.number; entries = v.made } in
      let long = longer_starts log top.seen v.seen tops.begins fits.begins in
      let all : List E = longer top.seen v.seen in
      record {
        small = r.small;
        long = r.long;
        tickets = λ n. let b = total_set (λ (u : W). waits_at n u.stage) others j v w e in let z : waits_at n v.stage ≡ 0 = ap (waits_at n) idle in let t = r.tickets n in ((λ x y. omega arith), omega arith, omega arith);
        waiting = let b = total_set (λ (u : W). waits u.stage) others j v w e in let z : waits v.stage ≡ 0 = ap waits idle in let p = r.waiting in omega arith;
        spare = let b = total_set (λ (u : W). u.left) others j v w e in let p = r.spare in omega arith;
        numbers = λ n pos. let b = total_set (has n) others j v w e in let q = total_snoc (λ (p : Ended E). one_if p.number n) top.ended pair in let z = one_other 0 n (λ is. omega arith) in let t = r.numbers n pos in ((λ x y. omega arith), omega arith, omega arith);
        known = r.known;
        tops = record {
          is = tops.is;
          idle = tops.idle;
          same = tops.same;
          begins = long.0;
          begun = long.1;
          told = long.2;
          ended = every_append (λ (p : Ended E). (own session p.number log ≡ p.entries) × (own session p.number all ≡ p.entries)) top.ended (pair ∷ [])
              (ended_between log top.seen all top.ended long.0 long.1 tops.ended)
              (((fits.mine sess).0, own_between session v.number log all v.seen v.made long.0 long.2 (fits.mine sess).0 (fits.mine sess).1), tt);
        };
        each = each_set origin entries session o total d s c d s c log log others j w r.each (λ i u _ _ f. f)
            record { same = (λ q. absurd (cc)); other = (λ q. absurd (cc)); rests = (λ q. refl); named = (λ q. absurd (cc)); begins = (log, refl); mine = (λ q. absurd (cc)); at = tt };
        at_home = let b = total_set (λ (u : W). is_out u.stage) others j v w e in let z : is_out v.stage ≡ 0 = ap is_out idle in
            ⊎_elim (λ t. inl ((let q = t.0 in omega arith), t.1, t.2)) (λ t. inr ((let q = t.0 in omega arith), t.1)) r.at_home;
      }

  pub ends : (id : ℕ) (v : W) (other : ℕ) (w : W) → v.role ≡ Opening → w.role ≡ Session → w.stage ≡ Idle → Joins K id v other w (ending v w) spent
  ends id v other w is sess idle x kk at apart there = on origin entries session o total
      (λ y. get_elem? y.views id ≡ some v → get_elem? (set y.views id (ending v w)) other ≡ some w → K record { words = y.words; homes = y.homes; views = set (set y.views id (ending v w)) other spent })
      (λ d s c h log top others r e e'.
      let t = at_top origin entries session o total d s c log top others id v r.each is e in
      let f : get_elem? (top ∷ others) other ≡ some w = ⊎_elim (λ (q : (other ≡ id) × (ending v w ≡ w)). absurd (apart q.0)) (λ (q : (other ≢ id) × (get_elem? (top ∷ others) other ≡ some w)). q.1) (at_set (top ∷ others) id other (ending v w) w e') in
      let n = at_session origin entries session o total log top others other w r.tops sess f in
      subst (λ (y : ℕ × W × ℕ). K record { words = 0 ∷ d ∷ s ∷ c ∷ []; homes = h ∷ []; views = set (set (top ∷ others) y.0 (ending y.1 w)) y.2 spent }) (λ i. (sym t.0 i, t.1 i, sym n.1 i))
      (kept origin entries session o total d s c h log (ending top w) (set others n.0 spent) (end_ruled d s c h log top others r n.0 w n.2 sess idle)))
      x kk at there

  -- no session is left where each given number is ended
  no_session : (d s c : ℕ) (h : maybe.Option (Option V)) (log : List E) (top : W) (others : List W) (r : R d s c h log top others) → ((k : ℕ) → 1 ≤ k → k ≤ top.given → 1 ≤ times_ended k top.ended) → (j : ℕ) (v : W) → get_elem? others j ≡ some v → v.role ≡ Session → ⊥
  no_session d s c h log top others r all j v e sess =
      let named = (r.each j v e).named sess in
      let there = total_at (has v.number) others j v e in
      let one = one_same v.number v.number refl in
      let most = count_most 1 (top.given + 1) v.number (times_ended v.number top.ended + total_of (has v.number) others) (r.numbers v.number named) in
      let within = count_within 1 (top.given + 1) v.number (times_ended v.number top.ended + total_of (has v.number) others) (r.numbers v.number named) (omega arith) in
      let ended = all v.number named (let b = within.1 in omega arith) in
      absurd (omega arith)

  role_cases : (r : Role) → (r ≡ Opening) ⊎ ((r ≡ Session) ⊎ (r ≡ Spent))
  role_cases Opening = inl refl
  role_cases Session = inr (inl refl)
  role_cases Spent = inr (inr refl)

  ended_after : (seen rest : List E) (k : ℕ) (pairs : List (Ended E)) → 0 < times_ended k pairs
      → AllByRecursion (λ p. (own session p.number (seen ++ rest) ≡ p.entries) × (own session p.number seen ≡ p.entries)) pairs → own session k rest ≡ []
  ended_after seen rest k [] h p = absurd (omega arith)
  ended_after seen rest k (x ∷ xs) h p = dite (ℕ_discrete x.number k)
      (λ is. subst (λ (n : ℕ). own session n rest ≡ []) is (own_after session x.number seen rest x.entries p.0.0 p.0.1))
      (λ no. let z = one_other x.number k no in ended_after seen rest k xs (omega arith) p.1)

  all_seen : (top : W) (rest : List E) → ((k : ℕ) → 1 ≤ k → k ≤ top.given → 1 ≤ times_ended k top.ended) → AllByRecursion (λ e. (1 ≤ session e) × (session e ≤ top.given)) rest
      → AllByRecursion (λ p. (own session p.number (top.seen ++ rest) ≡ p.entries) × (own session p.number top.seen ≡ p.entries)) top.ended → rest ≡ []
  all_seen top [] all known ended = refl
  all_seen top (e ∷ rest) all known ended = absurd (own_nil_head session e rest (ended_after top.seen (e ∷ rest) (session e) top.ended (all (session e) known.0.0 known.0.1) ended))

  none_out : (d s c : ℕ) (h : maybe.Option (Option V)) (log : List E) (top : W) (others : List W) (r : R d s c h log top others) → ((k : ℕ) → 1 ≤ k → k ≤ top.given → 1 ≤ times_ended k top.ended) → (total_of (λ (u : W). is_out u.stage) others ≡ 1) → ⊥
  none_out d s c h log top others r all one =
      let f = total_find (λ (u : W). is_out u.stage) others (omega arith) in
      let u = f.1 in
      ⊎_elim (λ (q : u.role ≡ Opening). (r.each f.0 u f.2).other q)
      (λ (t : (u.role ≡ Session) ⊎ (u.role ≡ Spent)). ⊎_elim (λ (q : u.role ≡ Session). no_session d s c h log top others r all f.0 u f.2 q)
      (λ (q : u.role ≡ Spent). let z : is_out u.stage ≡ 0 = ap is_out ((r.each f.0 u f.2).rests q) in let p = f.3 in absurd (omega arith)) t)
      (role_cases u.role)

  -- what stands in a closed book
  pub record Stood (xs : List (Option V)) (v : W) : Type 0 where
    pub value : V
    pub there : get_elem? xs 0 ≡ some (Some value)
    pub same : v.origin ≡ Some (origin value)
    pub list : entries value ≡ v.seen
    pub known : Knows session v

  pub closes : (ws : List ℕ) (xs : List (Option V)) (id : ℕ) (v : W) → v.role ≡ Opening → ((k : ℕ) → 1 ≤ k → k ≤ v.given → 1 ≤ times_ended k v.ended) → Final (Seen K id v) ws xs → Stood xs v
  closes ws xs id v is all f = on origin entries session o total
      (λ y. get_elem? y.views id ≡ some v → ((k : ℕ) (z : Option V) → get_elem? y.homes k ≡ some (some z) → get_elem? xs k ≡ some z) → Stood xs v)
      (λ d s c h log top others r e values.
      let t = at_top origin entries session o total d s c log top others id v r.each is e in
      let all' : (k : ℕ) → 1 ≤ k → k ≤ top.given → 1 ≤ times_ended k top.ended = subst (λ (u : W). (k : ℕ) → 1 ≤ k → k ≤ u.given → 1 ≤ times_ended k u.ended) (sym t.1) all in
      let rest = r.tops.begins.0 in
      let split : log ≡ top.seen ++ rest = r.tops.begins.1 in
      let empty = all_seen top rest all' (every_back (λ e. (1 ≤ session e) × (session e ≤ top.given)) top.seen rest (subst (AllByRecursion (λ e. (1 ≤ session e) × (session e ≤ top.given))) split r.known))
      (subst (λ (l : List E). AllByRecursion (λ p. (own session p.number l ≡ p.entries) × (own session p.number top.seen ≡ p.entries)) top.ended) split r.tops.ended) in
      let whole : log ≡ top.seen = split ∙ (ap (λ l. top.seen ++ l) empty ∙ append-nil top.seen) in
      ⊎_elim
      (λ (a : (total_of (λ (u : W). is_out u.stage) others ≡ 0) × (c ≡ s) × ((x : V) × (h ≡ some (Some x)) × (origin x ≡ o) × (entries x ≡ log))).
      let x = a.2.0 in
      record {
        value = x;
        there = values 0 (Some x) (ap some a.2.1);
        same = ap (λ (u : W). u.origin) (sym t.1) ∙ (r.tops.same.0 ∙ ap Some (sym a.2.2));
        list = a.2.3 ∙ (whole ∙ ap (λ (u : W). u.seen) t.1);
        known = subst (Knows session) t.1 (knows log top r.known r.tops);
      })
      (λ (b : (total_of (λ (u : W). is_out u.stage) others ≡ 1) × (h ≡ none)). absurd (none_out d s c h log top others r all' b.0))
      r.at_home)
      f.0 f.1.0 f.1.1 f.4
