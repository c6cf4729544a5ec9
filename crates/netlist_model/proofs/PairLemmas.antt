-- Places of ticks that are told by the numbers of two events.
use Rattle.std.proofs.Common.{◌≡◌, ℕ, ◌+◌, ◌*◌, ◌<◌, ◌≤◌, ◌==◌, ◌&&◌, ◌⊎◌, inl, inr, ◌++◌, List, [], ◌∷◌, length, suc, zero, Bool, true, false, cond, nat_lt, ◌≢◌, get_or, set, nat_eq, Option, Some, None, is_some, option_map, option_and_then, refl, sym, ap, ◌∙◌, arith, slice_get, if◌then◌else◌}
use Rattle.std.specs.declared.cmp.Ordering.{Ordering}
use Rattle.std.specs.declared.cmp.Ordering.TheVariants.{Less, Equal, Greater}
use Rattle.std.specs.List.{remove}
use Rattle.std.specs.Ordering.{is_eq, nat_cmp, ordering_then}
use Rattle.std.proofs.lemmas.Bool.Decides.{nat_tests}
use Rattle.std.proofs.lemmas.List.{get_or-set_same, get_or-set_other, length-set}
use Rattle.std.proofs.lemmas.Option.{slice_get_past}
use Rattle.cell_arcs.specs.Steps.{or_else}
use Rattle.netlist_model.specs.Blocks.{pair_eq}
use Rattle.netlist_model.specs.Keyed.{IsNumbered, event_before, key_of, told_of}
use Rattle.netlist_model.specs.PairTables.{Table, held_at, held_by, is_free_for, mapped_at, pair_cmp, pair_slot, placed_of}
use Rattle.netlist_model.proofs.BlockLemmas.{same_test}
use Rattle.netlist_model.specs.Uses.{moved_back}

same_order : (x y : ℕ) → is_eq (nat_cmp x y) ≡ (x == y)
same_order x y = grind (arith, nat_tests)

both_same : (o p : Ordering) → is_eq (ordering_then o p) ≡ (is_eq o && is_eq p)
both_same Less p = refl
both_same Equal p = refl
both_same Greater p = refl

pub is_pair : (a b c d : ℕ) → is_eq (pair_cmp (a, b) (c, d)) ≡ pair_eq (a, b) (c, d)
is_pair a b c d = both_same (nat_cmp a c) (nat_cmp b d) ∙ rw (same_order a c, same_order b d) refl

-- ---- one more number

grown_at : (numbers : List ℕ) (next u : ℕ) → (slice_get (numbers ++ next ∷ []) u ≡ slice_get numbers u) ⊎ ((slice_get numbers u ≡ None) × (slice_get (numbers ++ next ∷ []) u ≡ Some next) × (u ≡ length numbers))
grown_at [] next zero = inr (refl, refl, omega arith)
grown_at [] next (suc u) = inl refl
grown_at (n ∷ ns) next zero = inl refl
grown_at (n ∷ ns) next (suc u) = elim (grown_at ns next u) [ inl e ↦ inl e | inr e ↦ inr (e.0, e.1, omega (arith, e.2)) ]

none_known : {A : Type 0} (table : Table A) (numbers : List ℕ) (next a b : ℕ) → IsNumbered table numbers next → ((a < next) × (b < next) → ⊥) → placed_of table (a, b) ≡ None
none_known {A = A} table numbers next a b numbered past = by (placed_of table (a, b)) refl
  where
    by : (o : Option A) → placed_of table (a, b) ≡ o → placed_of table (a, b) ≡ None
    by None e = e
    by (Some x) e = absurd (past (numbered.known a b (ap is_some e)))

pub told_grown : {A : Type 0} (table : Table A) (numbers : List ℕ) (next u v : ℕ) → IsNumbered table numbers next → told_of (table, numbers ++ next ∷ []) u v ≡ told_of (table, numbers) u v
told_grown {A = A} table numbers next u v numbered = elim (grown_at numbers next u) [
  | inl e ↦ elim (grown_at numbers next v) [
    | inl f ↦ rw (e, f) refl
    | inr f ↦ rw (e, f.0, f.1) (second (slice_get numbers u))
  ]
  | inr e ↦ rw (e.0, e.1) (first (slice_get (numbers ++ next ∷ []) v))
]
  where
    second : (o : Option ℕ) → option_and_then (placed_of table) (option_and_then (λ a. Some (a, next)) o) ≡ option_and_then (placed_of table) (option_and_then (λ a. None) o)
    second None = refl
    second (Some a) = none_known table numbers next a next numbered (λ h. absurd (omega (arith, h.1)))

    first : (o : Option ℕ) → option_and_then (placed_of table) (option_map (λ b. (next, b)) o) ≡ None
    first None = refl
    first (Some b) = none_known table numbers next next b numbered (λ h. absurd (omega (arith, h.0)))

pub numbered_grown : {A : Type 0} (table : Table A) (numbers : List ℕ) (next next' : ℕ) → IsNumbered table numbers next → next' ≡ next + 1 → IsNumbered table (numbers ++ next ∷ []) next'
numbered_grown table numbers next next' numbered one = record {
  once = λ i j n e f. elim (grown_at numbers next i) [
    | inl g ↦ elim (grown_at numbers next j) [
      | inl h ↦ numbered.once i j n (sym g ∙ e) (sym h ∙ f)
      | inr h ↦ absurd (clash i n (sym g ∙ e) (same_next n (sym h.1 ∙ f)))
    ]
    | inr g ↦ elim (grown_at numbers next j) [
      | inl h ↦ absurd (clash j n (sym h ∙ f) (same_next n (sym g.1 ∙ e)))
      | inr h ↦ g.2 ∙ sym h.2
    ]
  ];
  below = λ i n e. elim (grown_at numbers next i) [
    | inl g ↦ (let l = numbered.below i n (sym g ∙ e) in omega (arith, l, one))
    | inr g ↦ (let l = same_next n (sym g.1 ∙ e) in omega (arith, l, one))
  ];
  known = λ a b h. (let l = numbered.known a b h in (omega (arith, l.0, one), omega (arith, l.1, one)));
}
  where
    same_next : (n : ℕ) → Some next ≡ Some n → next ≡ n
    same_next n e = cc

    clash : (i n : ℕ) → slice_get numbers i ≡ Some n → next ≡ n → ⊥
    clash i n e same = let l = numbered.below i n e in absurd (omega (arith, l, same))

-- ---- a place that is told, or no longer

-- two numbers, if both are there
abbrev pair_in : Option ℕ → Option ℕ → Option (ℕ × ℕ)
pair_in o p = option_and_then (λ a. option_map (λ b. (a, b)) p) o

key_parts : (numbers : List ℕ) (s t a b : ℕ) → key_of numbers s t ≡ Some (a, b) → (slice_get numbers s ≡ Some a) × (slice_get numbers t ≡ Some b)
key_parts numbers s t a b is = by (slice_get numbers s) (slice_get numbers t) refl refl is
  where
    some_pair : (k l : ℕ × ℕ) → Some k ≡ Some l → k ≡ l
    some_pair k l e = cc

    by : (o p : Option ℕ) → slice_get numbers s ≡ o → slice_get numbers t ≡ p → pair_in o p ≡ Some (a, b) → (slice_get numbers s ≡ Some a) × (slice_get numbers t ≡ Some b)
    by None p e f h = cc
    by (Some x) None e f h = cc
    by (Some x) (Some y) e f h =
        let k : ℕ × ℕ = (x, y) in
        let l : ℕ × ℕ = (a, b) in
        let g : k ≡ l = some_pair k l h in
        (e ∙ ap (λ (q : ℕ × ℕ). Some q.0) g, f ∙ ap (λ (q : ℕ × ℕ). Some q.1) g)

-- two pairs are one where their numbers are
same_pairs : {A : Type 0} (table : Table A) (numbers : List ℕ) (next s t a b u v x y : ℕ) → IsNumbered table numbers next → key_of numbers s t ≡ Some (a, b) → key_of numbers u v ≡ Some (x, y)
    → pair_eq (a, b) (x, y) ≡ pair_eq (s, t) (u, v)
same_pairs table numbers next s t a b u v x y numbered is is' = by (pair_eq (a, b) (x, y)) (pair_eq (s, t) (u, v)) refl refl
  where
    here : (slice_get numbers s ≡ Some a) × (slice_get numbers t ≡ Some b)
    here = key_parts numbers s t a b is

    there : (slice_get numbers u ≡ Some x) × (slice_get numbers v ≡ Some y)
    there = key_parts numbers u v x y is'

    by : (c d : Bool) → pair_eq (a, b) (x, y) ≡ c → pair_eq (s, t) (u, v) ≡ d → c ≡ d
    by true true e f = refl
    by false false e f = refl
    by true false e f =
        let (p, q) = same_test a b x y e in
        let i : s ≡ u = numbered.once s u a here.0 (there.0 ∙ ap Some (sym p)) in
        let j : t ≡ v = numbered.once t v b here.1 (there.1 ∙ ap Some (sym q)) in
        let g : pair_eq (s, t) (u, v) ≡ true = grind (arith, nat_tests) in
        sym g ∙ f
    by false true e f =
        let (p, q) = same_test s t u v f in
        let i : Some a ≡ Some x = sym here.0 ∙ ap (slice_get numbers) p ∙ there.0 in
        let j : Some b ≡ Some y = sym here.1 ∙ ap (slice_get numbers) q ∙ there.1 in
        let k : a ≡ x = cc in
        let l : b ≡ y = cc in
        let g : pair_eq (a, b) (x, y) ≡ true = grind (arith, nat_tests) in
        sym e ∙ g

pub told_changed : {A : Type 0} (table new : Table A) (numbers : List ℕ) (next s t a b : ℕ) (w : Option A) → IsNumbered table numbers next → key_of numbers s t ≡ Some (a, b)
    → ((q : ℕ × ℕ) → placed_of new q ≡ cond (pair_eq (a, b) q) w (placed_of table q)) → (u v : ℕ) → told_of (new, numbers) u v ≡ cond (pair_eq (s, t) (u, v)) w (told_of (table, numbers) u v)
told_changed {A = A} table new numbers next s t a b w numbered is after u v = by (key_of numbers u v) refl
  where
    none : (c : Bool) → pair_eq (s, t) (u, v) ≡ c → key_of numbers u v ≡ None → None ≡ cond c w None
    none false e f = refl
    none true e f =
        let (p, q) = same_test s t u v e in
        let key : Option (ℕ × ℕ) = Some (a, b) in
        let g : None ≡ key = sym f ∙ sym (ap (λ x. key_of numbers x v) p) ∙ sym (ap (key_of numbers s) q) ∙ is in cc

    by : (o : Option (ℕ × ℕ)) → key_of numbers u v ≡ o → option_and_then (placed_of new) (key_of numbers u v) ≡ cond (pair_eq (s, t) (u, v)) w (option_and_then (placed_of table) (key_of numbers u v))
    by None e = rw e (none (pair_eq (s, t) (u, v)) refl e)
    by (Some k) e =
        rw e (after k ∙ ap (λ c. cond c w (placed_of table k)) (same_pairs table numbers next s t a b u v k.0 k.1 numbered is e))

pub numbered_changed : {A : Type 0} (table new : Table A) (numbers : List ℕ) (next s t a b : ℕ) (w : Option A) → IsNumbered table numbers next → key_of numbers s t ≡ Some (a, b)
    → ((q : ℕ × ℕ) → placed_of new q ≡ cond (pair_eq (a, b) q) w (placed_of table q)) → IsNumbered new numbers next
numbered_changed {A = A} table new numbers next s t a b w numbered is after = record {
  once = numbered.once;
  below = numbered.below;
  known = λ x y h. by x y h (pair_eq (a, b) (x, y)) refl;
}
  where
    by : (x y : ℕ) → is_some (placed_of new (x, y)) ≡ true → (c : Bool) → pair_eq (a, b) (x, y) ≡ c → (x < next) × (y < next)
    by x y h true e =
        let (p, q) = same_test a b x y e in
        let parts = key_parts numbers s t a b is in
        let i = numbered.below s a parts.0 in
        let j = numbered.below t b parts.1 in
        (omega (arith, i, p), omega (arith, j, q))
    by x y h false e = numbered.known x y (ap is_some (sym (after (x, y) ∙ ap (λ c. cond c w (placed_of table (x, y))) e)) ∙ h)

-- a pair without numbers has nothing told
pub told_without : {A : Type 0} (table : Table A) (numbers : List ℕ) (s t : ℕ) → key_of numbers s t ≡ None → (u v : ℕ) → told_of (table, numbers) u v ≡ cond (pair_eq (s, t) (u, v)) None (told_of (table, numbers) u v)
told_without table numbers s t none u v = by (pair_eq (s, t) (u, v)) refl
  where
    by : (c : Bool) → pair_eq (s, t) (u, v) ≡ c → told_of (table, numbers) u v ≡ cond c None (told_of (table, numbers) u v)
    by false e = refl
    by true e =
        let (p, q) = same_test s t u v e in
        let gone : key_of numbers u v ≡ None = sym (ap (λ x. key_of numbers x v) p) ∙ sym (ap (key_of numbers s) q) ∙ none in
        ap (option_and_then (placed_of table)) gone

-- ---- a net away

removed_at : {A : Type 0} (xs : List A) (gone n : ℕ) → slice_get (remove xs gone) n ≡ slice_get xs (moved_back gone n)
removed_at [] zero n = refl
removed_at [] (suc gone) n = refl
removed_at (x ∷ xs) zero n = let e : nat_lt n 0 ≡ false = grind (arith, nat_tests) in rw e refl
removed_at (x ∷ xs) (suc gone) zero = let e : nat_lt 0 (suc gone) ≡ true = grind (arith, nat_tests) in rw e refl
removed_at (x ∷ xs) (suc gone) (suc n) = removed_at xs gone n ∙ ap (slice_get (x ∷ xs)) (by (nat_lt n gone) refl)
  where
    by : (b : Bool) → nat_lt n gone ≡ b → suc (moved_back gone n) ≡ moved_back (suc gone) (suc n)
    by true e = let f : nat_lt (suc n) (suc gone) ≡ true = grind (arith, nat_tests) in rw (e, f) refl
    by false e = let f : nat_lt (suc n) (suc gone) ≡ false = grind (arith, nat_tests) in rw (e, f) refl

pub forgotten_at : (numbers new : List ℕ) (gone n : ℕ) → new ≡ (if nat_lt gone (length numbers) then remove numbers gone else numbers) → slice_get new n ≡ slice_get numbers (moved_back gone n)
forgotten_at numbers new gone n is = ap (λ xs. slice_get xs n) is ∙ by (nat_lt gone (length numbers)) refl
  where
    past : nat_lt gone (length numbers) ≡ false → (b : Bool) → nat_lt n gone ≡ b → slice_get numbers n ≡ slice_get numbers (moved_back gone n)
    past h true e = rw e refl
    past h false e =
        let high : length numbers ≤ n = grind (arith, nat_tests) in
        rw e (slice_get_past numbers n high ∙ sym (slice_get_past numbers (suc n) (omega arith)))

    by : (b : Bool) → nat_lt gone (length numbers) ≡ b → slice_get (if b then remove numbers gone else numbers) n ≡ slice_get numbers (moved_back gone n)
    by true e = removed_at numbers gone n
    by false e = past e (nat_lt n gone) refl

back_twice : (gone n : ℕ) → moved_back (2 * gone + 1) (moved_back (2 * gone) n) ≡ event_before gone n
back_twice gone n = grind (arith, nat_tests)

event_once : (gone i j : ℕ) → event_before gone i ≡ event_before gone j → i ≡ j
event_once gone i j e = grind (arith, nat_tests)

-- both events of a net are forgotten
pub left_at : (numbers mid new : List ℕ) (gone n : ℕ) → mid ≡ (if nat_lt (2 * gone + 1) (length numbers) then remove numbers (2 * gone + 1) else numbers)
    → new ≡ (if nat_lt (2 * gone) (length mid) then remove mid (2 * gone) else mid) → slice_get new n ≡ slice_get numbers (event_before gone n)
left_at numbers mid new gone n is is' =
    forgotten_at mid new (2 * gone) n is' ∙ forgotten_at numbers mid (2 * gone + 1) (moved_back (2 * gone) n) is ∙ ap (slice_get numbers) (back_twice gone n)

pub told_left : {A : Type 0} (table : Table A) (numbers new : List ℕ) (gone u v : ℕ) → ((n : ℕ) → slice_get new n ≡ slice_get numbers (event_before gone n))
    → told_of (table, new) u v ≡ told_of (table, numbers) (event_before gone u) (event_before gone v)
told_left table numbers new gone u v left = rw (left u, left v) refl

pub numbered_left : {A : Type 0} (table : Table A) (numbers new : List ℕ) (next gone : ℕ) → IsNumbered table numbers next → ((n : ℕ) → slice_get new n ≡ slice_get numbers (event_before gone n)) → IsNumbered table new next
numbered_left table numbers new next gone numbered left = record {
  once = λ i j n e f. event_once gone i j (numbered.once (event_before gone i) (event_before gone j) n (sym (left i) ∙ e) (sym (left j) ∙ f));
  below = λ i n e. numbered.below (event_before gone i) n (sym (left i) ∙ e);
  known = numbered.known;
}

-- ---- tables

pub pair_same : (key q : ℕ × ℕ) → pair_eq key q ≡ true → key ≡ q
pair_same key q e =
    let (i, j) = same_test key.0 key.1 q.0 q.1 e in
    λ n. (i n, j n)

pub pair_turned : (key q : ℕ × ℕ) → pair_eq key q ≡ pair_eq q key
pair_turned key q = grind (arith, nat_tests)

-- the pair of a slot is written into it: it is told, and the others as before
pub held_put : {A : Type 0} (slots : List (Option ((ℕ × ℕ) × A))) (key : ℕ × ℕ) (place : A) → pair_slot (length slots) key < length slots → is_free_for key (get_or slots (pair_slot (length slots) key) None) ≡ true
    → (q : ℕ × ℕ) → held_at (set slots (pair_slot (length slots) key) (Some (key, place))) q ≡ cond (pair_eq key q) (Some place) (held_at slots q)
held_put {A = A} slots key place low free q =
    ap (λ n. held_by q (get_or (set slots at (Some (key, place))) (pair_slot n q) None)) (length-set slots at (Some (key, place)))
    ∙ by (pair_eq key q) refl (nat_eq (pair_slot (length slots) q) at) refl
  where
    at : ℕ
    at = pair_slot (length slots) key

    by : (c : Bool) → pair_eq key q ≡ c → (d : Bool) → nat_eq (pair_slot (length slots) q) at ≡ d
        → held_by q (get_or (set slots at (Some (key, place))) (pair_slot (length slots) q) None) ≡ cond c (Some place) (held_at slots q)
    by true e d f =
        let same = pair_same key q e in
        ap (λ n. held_by q (get_or (set slots at (Some (key, place))) n None)) (ap (pair_slot (length slots)) (sym same))
        ∙ ap (held_by q) (get_or-set_same slots at (Some (key, place)) None low) ∙ rw (sym (pair_turned key q) ∙ e) refl
    by false e true f =
        let here : pair_slot (length slots) q ≡ at = grind (arith, nat_tests) in
        let apart : pair_eq q key ≡ false = sym (pair_turned key q) ∙ e in
        ap (λ n. held_by q (get_or (set slots at (Some (key, place))) n None)) here
        ∙ ap (held_by q) (get_or-set_same slots at (Some (key, place)) None low) ∙ rw apart refl
        ∙ sym (ap (λ n. held_by q (get_or slots n None)) here ∙ none (get_or slots at None) free)
      where
        none : (o : Option ((ℕ × ℕ) × A)) → is_free_for key o ≡ true → held_by q o ≡ None
        none None h = refl
        none (Some x) h =
            let is = pair_same key x.0 h in
            let g : pair_eq q x.0 ≡ false = sym (ap (pair_eq q) is) ∙ sym (pair_turned key q) ∙ e in
            rw g refl
    by false e false f =
        let apart : pair_slot (length slots) q ≢ at = grind (arith, nat_tests) in
        ap (held_by q) (get_or-set_other slots at (pair_slot (length slots) q) (Some (key, place)) None apart)

-- the slot of a pair that it holds is emptied
pub held_gone : {A : Type 0} (slots : List (Option ((ℕ × ℕ) × A))) (key : ℕ × ℕ) (place : A) → pair_slot (length slots) key < length slots → held_at slots key ≡ Some place
    → (q : ℕ × ℕ) → held_at (set slots (pair_slot (length slots) key) None) q ≡ cond (pair_eq key q) None (held_at slots q)
held_gone {A = A} slots key place low is q =
    ap (λ n. held_by q (get_or (set slots at None) (pair_slot n q) None)) (length-set slots at None)
    ∙ by (pair_eq key q) refl (nat_eq (pair_slot (length slots) q) at) refl
  where
    at : ℕ
    at = pair_slot (length slots) key

    by : (c : Bool) → pair_eq key q ≡ c → (d : Bool) → nat_eq (pair_slot (length slots) q) at ≡ d
        → held_by q (get_or (set slots at None) (pair_slot (length slots) q) None) ≡ cond c None (held_at slots q)
    by true e d f =
        let same = pair_same key q e in
        ap (λ n. held_by q (get_or (set slots at None) n None)) (ap (pair_slot (length slots)) (sym same))
        ∙ ap (held_by q) (get_or-set_same slots at None None low)
    by false e true f =
        let here : pair_slot (length slots) q ≡ at = grind (arith, nat_tests) in
        ap (λ n. held_by q (get_or (set slots at None) n None)) here ∙ ap (held_by q) (get_or-set_same slots at None None low)
        ∙ sym (ap (λ n. held_by q (get_or slots n None)) here ∙ none (get_or slots at None) is)
      where
        none : (o : Option ((ℕ × ℕ) × A)) → held_by key o ≡ Some place → held_by q o ≡ None
        none None h = cc
        none (Some x) h = pick (pair_eq key x.0) refl
          where
            pick : (b : Bool) → pair_eq key x.0 ≡ b → held_by q (Some x) ≡ None
            pick true g =
                let same = pair_same key x.0 g in
                let k : pair_eq q x.0 ≡ false = sym (ap (pair_eq q) same) ∙ sym (pair_turned key q) ∙ e in
                rw k refl
            pick false g = let k : None ≡ Some place = sym (rw g refl) ∙ h in cc
    by false e false f =
        let apart : pair_slot (length slots) q ≢ at = grind (arith, nat_tests) in
        ap (held_by q) (get_or-set_other slots at (pair_slot (length slots) q) None None apart)

-- a pair is told by its slot now
pub put_slot : {A : Type 0} (slots slots' : List (Option ((ℕ × ℕ) × A))) (entries : List ((ℕ × ℕ) × A)) (key : ℕ × ℕ) (place : A) → ((q : ℕ × ℕ) → held_at slots' q ≡ cond (pair_eq key q) (Some place) (held_at slots q))
    → (q : ℕ × ℕ) → placed_of (slots', entries) q ≡ cond (pair_eq key q) (Some place) (placed_of (slots, entries) q)
put_slot slots slots' entries key place held q = ap (λ o. or_else o (mapped_at entries q)) (held q) ∙ by (pair_eq key q)
  where
    by : (c : Bool) → or_else (cond c (Some place) (held_at slots q)) (mapped_at entries q) ≡ cond c (Some place) (or_else (held_at slots q) (mapped_at entries q))
    by true = refl
    by false = refl

-- a pair is told by the map now
pub put_map : {A : Type 0} (slots : List (Option ((ℕ × ℕ) × A))) (entries entries' : List ((ℕ × ℕ) × A)) (key : ℕ × ℕ) (place : A) → held_at slots key ≡ None
    → ((q : ℕ × ℕ) → mapped_at entries' q ≡ cond (is_eq (pair_cmp key q)) (Some place) (mapped_at entries q)) → (q : ℕ × ℕ) → placed_of (slots, entries') q ≡ cond (pair_eq key q) (Some place) (placed_of (slots, entries) q)
put_map slots entries entries' key place none mapped q =
    ap (or_else (held_at slots q)) (mapped q ∙ ap (λ c. cond c (Some place) (mapped_at entries q)) (is_pair key.0 key.1 q.0 q.1)) ∙ by (pair_eq key q) refl
  where
    by : (c : Bool) → pair_eq key q ≡ c → or_else (held_at slots q) (cond c (Some place) (mapped_at entries q)) ≡ cond c (Some place) (or_else (held_at slots q) (mapped_at entries q))
    by true e = ap (λ o. or_else o (Some place)) (ap (held_at slots) (sym (pair_same key q e)) ∙ none)
    by false e = refl

-- a pair is told no longer
pub put_away : {A : Type 0} (slots slots' : List (Option ((ℕ × ℕ) × A))) (entries entries' : List ((ℕ × ℕ) × A)) (key : ℕ × ℕ) → ((q : ℕ × ℕ) → held_at slots' q ≡ cond (pair_eq key q) None (held_at slots q))
    → ((q : ℕ × ℕ) → mapped_at entries' q ≡ cond (is_eq (pair_cmp key q)) None (mapped_at entries q)) → (q : ℕ × ℕ) → placed_of (slots', entries') q ≡ cond (pair_eq key q) None (placed_of (slots, entries) q)
put_away slots slots' entries entries' key held mapped q =
    ap (λ o. or_else o (mapped_at entries' q)) (held q)
    ∙ ap (or_else (cond (pair_eq key q) None (held_at slots q))) (mapped q ∙ ap (λ c. cond c None (mapped_at entries q)) (is_pair key.0 key.1 q.0 q.1)) ∙ by (pair_eq key q)
  where
    by : (c : Bool) → or_else (cond c None (held_at slots q)) (cond c None (mapped_at entries q)) ≡ cond c None (or_else (held_at slots q) (mapped_at entries q))
    by true = refl
    by false = refl
