-- The ticks of a netlist in blocks.
use Rattle.std.proofs.Common.{◌≡◌, ℕ, ◌+◌, ◌-◌, ◌<◌, ◌≤◌, ◌≢◌, ◌==◌, ◌||◌, ◌&&◌, ◌⊎◌, inl, inr, not, List, [], ◌∷◌, ◌++◌, length, map, filter, get_or, set, drop, suc, zero, Bool, true, false, cond, nat_lt, Option, Some, None, is_some, Vec, refl, sym, ap, subst, ◌∙◌, arith, slice_get, if◌then◌else◌, append_assoc, length-append, drop-cons}
use Rattle.std.specs.List.{list_any, flat_map}
use Rattle.std.proofs.lemmas.Bool.Decides.{nat_tests}
use Rattle.std.proofs.lemmas.List.{append-nil, length-set, length_push, length-map, map-set, map-append}
use Rattle.std.proofs.Math.Seq.{map-set_same}
use Rattle.std.proofs.lemmas.Grind.{flat_map-append}
use Rattle.std.proofs.lemmas.List.Elements.{filter-append}
use Rattle.std.proofs.lemmas.List.Folds.{list_any-append, list_any_at}
use Rattle.std.proofs.lemmas.Option.{get_or_from_slice_get, slice_get_read, slice_get-map}
use Rattle.std.specs.Global.{Global}
use Rattle.std.proofs.lemmas.List.{get_or-map}
use Rattle.netlist_model.specs.Blocks.{pair_eq, is_at, IsIndexed, Grown, PutLast}
use Rattle.netlist_model.specs.Circuit.{is_between, tick_of}
use Rattle.netlist_model.specs.declared.parts.Tick.{Tick}
use Rattle.netlist_model.proofs.Places.{stands}
use Rattle.netlist_model.proofs.Soundness.{find_any, push_cases}

-- the ticks of the blocks, one block after the other
abbrev pub flat : List (List Tick) → List Tick
flat blocks = flat_map (λ b. b) blocks

nat_refl : (k : ℕ) → (k == k) ≡ true
nat_refl k = grind (arith, nat_tests)

-- a tick passes where it is in a block that has one that passes
pub any_flat : (p : Tick → Bool) (blocks : List (List Tick)) → list_any p (flat blocks) ≡ list_any (λ b. list_any p b) blocks
any_flat p [] = refl
any_flat p (b ∷ bs) = list_any-append p b (flat bs) ∙ rw (any_flat p bs) refl

-- no block has one that passes
pub none_flat : (p : Tick → Bool) (blocks : List (List Tick)) → ((j : ℕ) (b : List Tick) → slice_get blocks j ≡ Some b → list_any p b ≡ false) → list_any p (flat blocks) ≡ false
none_flat p [] h = refl
none_flat p (b ∷ bs) h = list_any-append p b (flat bs) ∙ rw (h 0 b refl, none_flat p bs (λ j x e. h (suc j) x e)) refl

-- a pair has a tick where the index has a place for it
pub has_tick : (blocks : List (List Tick)) (place : ℕ → ℕ → Option ℕ) (s t : ℕ) → IsIndexed blocks place → is_some (place s t) ≡ is_some (tick_of (flat blocks) s t)
has_tick blocks place s t index = by (place s t) refl ∙ sym (find_any (is_between s t) (flat blocks))
  where
    by : (o : Option ℕ) → place s t ≡ o → is_some o ≡ list_any (is_between s t) (flat blocks)
    by None e = sym (none_flat (is_between s t) blocks (λ j b at. index.found j s t b at ∙ ap (is_at j) e))
    by (Some k) e =
        let within = index.within k s t e in
        let (b, at) = stands blocks k within in
        sym (any_flat (is_between s t) blocks
        ∙ list_any_at (λ x. list_any (is_between s t) x) blocks k b within
        (ap (λ x. list_any (is_between s t) x) (get_or_from_slice_get blocks k b b at) ∙ index.found k s t b at ∙ ap (is_at k) e ∙ nat_refl k))

-- an element of a list that follows another
pub slice_get-append : {A : Type 0} (xs ys : List A) (i : ℕ) → slice_get (xs ++ ys) i ≡ (if nat_lt i (length xs) then slice_get xs i else slice_get ys (i - length xs))
slice_get-append [] ys i =
    let t : nat_lt i 0 ≡ false = grind (arith, nat_tests) in
    let e : i - 0 ≡ i = omega arith in
    rw (t, e) refl
slice_get-append (x ∷ xs) ys zero = grind (arith, nat_tests)
slice_get-append (x ∷ xs) ys (suc i) =
    slice_get-append xs ys i ∙ (
    let t : nat_lt (suc i) (length (x ∷ xs)) ≡ nat_lt i (length xs) = grind (arith, nat_tests) in
    let m : suc i - length (x ∷ xs) ≡ i - length xs = omega arith in
    rw (t, m) refl)

-- the ticks from a block on
pub flat_drop : (blocks : List (List Tick)) (i : ℕ) (b : List Tick) → i < length blocks → b ≡ get_or blocks i b → flat (drop i blocks) ≡ b ++ flat (drop (i + 1) blocks)
flat_drop blocks i b h at =
    let next : suc i ≡ i + 1 = omega arith in
    ap flat (drop-cons blocks i b h) ∙ ap (λ x. x ++ flat (drop (suc i) blocks)) (sym at) ∙ ap (λ n. b ++ flat (drop n blocks)) next

-- the tick is in the block
pub tick_in : (blocks : List (List Tick)) (i left : ℕ) (b : List Tick) (x : Tick) → i < length blocks → b ≡ get_or blocks i b → left < length b → slice_get b left ≡ Some x → slice_get (flat (drop i blocks)) left ≡ Some x
tick_in blocks i left b x h at low is =
    let t : nat_lt left (length b) ≡ true = grind (arith, nat_tests) in
    rw (flat_drop blocks i b h at) (slice_get-append b (flat (drop (i + 1) blocks)) left ∙ rw t is)

-- the tick is past the block
pub tick_past : (blocks : List (List Tick)) (i left : ℕ) (b : List Tick) → i < length blocks → b ≡ get_or blocks i b → length b ≤ left → slice_get (flat (drop i blocks)) left ≡ slice_get (flat (drop (i + 1) blocks)) (left - length b)
tick_past blocks i left b h at high =
    let t : nat_lt left (length b) ≡ false = grind (arith, nat_tests) in
    rw (flat_drop blocks i b h at) (slice_get-append b (flat (drop (i + 1) blocks)) left ∙ rw t refl)

-- a list without what none of it is
filter_none : (q : Tick → Bool) (xs : List Tick) → list_any q xs ≡ false → filter (λ x. not (q x)) xs ≡ xs
filter_none q [] h = refl
filter_none q (x ∷ xs) h = by (q x) refl (filter_none q xs)
  where
    by : (b : Bool) → q x ≡ b → (list_any q xs ≡ false → filter (λ y. not (q y)) xs ≡ xs) → filter (λ y. not (q y)) (x ∷ xs) ≡ x ∷ xs
    by true e rest = let g : true ≡ false = rw e at h in cc
    by false e rest = let g : list_any q xs ≡ false = rw e at h in rw (e, rest g) refl

-- none of a list is left that was taken out
pub filtered_out : (q : Tick → Bool) (xs : List Tick) → list_any q (filter (λ x. not (q x)) xs) ≡ false
filtered_out q [] = refl
filtered_out q (x ∷ xs) = by (q x) refl (filtered_out q xs)
  where
    by : (b : Bool) → q x ≡ b → list_any q (filter (λ y. not (q y)) xs) ≡ false → list_any q (filter (λ y. not (q y)) (x ∷ xs)) ≡ false
    by true e rest = rw e rest
    by false e rest = rw e (rw e rest)

-- what is apart from what was taken out stays
filtered_apart : (q r : Tick → Bool) (xs : List Tick) → ((x : Tick) → q x ≡ true → r x ≡ false) → list_any r (filter (λ x. not (q x)) xs) ≡ list_any r xs
filtered_apart q r [] h = refl
filtered_apart q r (x ∷ xs) h = by (q x) refl (filtered_apart q r xs h)
  where
    by : (b : Bool) → q x ≡ b → list_any r (filter (λ y. not (q y)) xs) ≡ list_any r xs → list_any r (filter (λ y. not (q y)) (x ∷ xs)) ≡ list_any r (x ∷ xs)
    by true e rest = rw (e, h x e) rest
    by false e rest = rw (e, rest) refl

all_kept : (q : Tick → Bool) (blocks : List (List Tick)) → ((j : ℕ) (b : List Tick) → slice_get blocks j ≡ Some b → list_any q b ≡ false) → filter (λ x. not (q x)) (flat blocks) ≡ flat blocks
all_kept q blocks h = filter_none q (flat blocks) (none_flat q blocks h)

-- a block without its ticks of the pair, where no other block has one
pub filter_flat : (q : Tick → Bool) (blocks : List (List Tick)) (k : ℕ) (b new : List Tick) → slice_get blocks k ≡ Some b → new ≡ filter (λ x. not (q x)) b
    → ((j : ℕ) (x : List Tick) → j ≢ k → slice_get blocks j ≡ Some x → list_any q x ≡ false) → flat (set blocks k new) ≡ filter (λ x. not (q x)) (flat blocks)
filter_flat q [] k b new at is others = cc
filter_flat q (x ∷ xs) zero b new at is others =
    let same : x ≡ b = cc in
    sym (filter-append (λ y. not (q y)) x (flat xs) ∙ rw (same, ← is, all_kept q xs (λ j y e. others (suc j) y (omega arith) e)) refl)
filter_flat q (x ∷ xs) (suc k) b new at is others =
    sym (filter-append (λ y. not (q y)) x (flat xs) ∙ rw (filter_none q x (others 0 x (omega arith) refl), filter_flat q xs k b new at is (λ j y d e. others (suc j) y (omega arith) e)) refl)

-- how many ticks there are after a write
pub length_set_flat : (blocks : List (List Tick)) (k : ℕ) (b new : List Tick) → slice_get blocks k ≡ Some b → length (flat (set blocks k new)) + length b ≡ length (flat blocks) + length new
length_set_flat [] k b new at = cc
length_set_flat (x ∷ xs) zero b new at =
    let same : length x ≡ length b = let e : x ≡ b = cc in ap length e in
    omega (arith, length-append x (flat xs), length-append new (flat xs))
length_set_flat (x ∷ xs) (suc k) b new at =
    omega (arith, length-append x (flat xs), length-append x (flat (set xs k new)), length_set_flat xs k b new at)

-- what stands in a list after a write
pub set_cases : {A : Type 0} (xs : List A) (k j : ℕ) (y x : A) → slice_get (set xs k y) j ≡ Some x → ((j ≡ k) × (y ≡ x)) ⊎ ((j ≢ k) × (slice_get xs j ≡ Some x))
set_cases [] k j y x h = cc
set_cases (z ∷ zs) zero zero y x h = inl (refl, cc)
set_cases (z ∷ zs) zero (suc j) y x h = inr (omega arith, h)
set_cases (z ∷ zs) (suc k) zero y x h = inr (omega arith, h)
set_cases (z ∷ zs) (suc k) (suc j) y x h = elim (set_cases zs k j y x h) [ inl e ↦ inl (ap suc e.0, e.1) | inr e ↦ let d = e.0 in inr (omega arith, e.1) ]

-- two pairs that are not one have no tick in common
pub pairs_apart : (s t u v : ℕ) → pair_eq (s, t) (u, v) ≡ false → (x : Tick) → is_between s t x ≡ true → is_between u v x ≡ false
pairs_apart s t u v d x h = grind (arith, nat_tests)

pub same_test : (s t u v : ℕ) → pair_eq (s, t) (u, v) ≡ true → (s ≡ u) × (t ≡ v)
same_test s t u v h = (grind (arith, nat_tests), grind (arith, nat_tests))

-- the index without the pair, after its block was filtered
pub removed_index : (blocks : List (List Tick)) (place place' : ℕ → ℕ → Option ℕ) (s t k : ℕ) (b new : List Tick) → IsIndexed blocks place → place s t ≡ Some k → slice_get blocks k ≡ Some b
    → new ≡ filter (λ x. not (is_between s t x)) b → ((u v : ℕ) → place' u v ≡ cond (pair_eq (s, t) (u, v)) None (place u v)) → IsIndexed (set blocks k new) place'
removed_index blocks place place' s t k b new index here at is after = record {
  found = λ j u v x e. elim (set_cases blocks k j new x e) [
    | inl h ↦ at_k j u v x h.0 (sym h.1 ∙ is) (pair_eq (s, t) (u, v)) refl
    | inr h ↦ elsewhere j u v x h.0 h.1 (pair_eq (s, t) (u, v)) refl
  ];
  within = λ m u v e. rw (length-set blocks k new) (stays m u v e (pair_eq (s, t) (u, v)) refl);
}
  where
    at_k : (j u v : ℕ) (x : List Tick) → j ≡ k → x ≡ filter (λ y. not (is_between s t y)) b → (c : Bool) → pair_eq (s, t) (u, v) ≡ c → list_any (is_between u v) x ≡ is_at j (place' u v)
    at_k j u v x e f true p =
        let (a, d) = same_test s t u v p in
        rw (after u v, p, f, ← a, ← d) (filtered_out (is_between s t) b)
    at_k j u v x e f false p =
        rw (after u v, p, f, e) (filtered_apart (is_between s t) (is_between u v) b (pairs_apart s t u v p) ∙ index.found k u v b at)

    elsewhere : (j u v : ℕ) (x : List Tick) → j ≢ k → slice_get blocks j ≡ Some x → (c : Bool) → pair_eq (s, t) (u, v) ≡ c → list_any (is_between u v) x ≡ is_at j (place' u v)
    elsewhere j u v x d e true p =
        let (a, f) = same_test s t u v p in
        let no : (j == k) ≡ false = grind (arith, nat_tests) in
        rw (after u v, p, ← a, ← f) (index.found j s t x e ∙ ap (is_at j) here ∙ no)
    elsewhere j u v x d e false p = rw (after u v, p) (index.found j u v x e)

    stays : (m u v : ℕ) → place' u v ≡ Some m → (c : Bool) → pair_eq (s, t) (u, v) ≡ c → m < length blocks
    stays m u v e true p = let g : None ≡ Some m = rw (after u v, p) at e in cc
    stays m u v e false p = index.within m u v (rw (after u v, p) at e)

-- one more block that is empty
empty_added : (old : List (List Tick)) (place : ℕ → ℕ → Option ℕ) → IsIndexed old place → IsIndexed (old ++ [] ∷ []) place
empty_added old place index = record {
  found = λ j s t b at. elim (push_cases old [] j b at) [
    | inl e ↦ index.found j s t b e
    | inr e ↦ rw (← e.1) (elsewhere j s t e.0 (place s t) refl)
  ];
  within = λ k s t e. let low = index.within k s t e in omega (arith, length_push old []);
}
  where
    elsewhere : (j s t : ℕ) → j ≡ length old → (o : Option ℕ) → place s t ≡ o → false ≡ is_at j (place s t)
    elsewhere j s t e None p = rw p refl
    elsewhere j s t e (Some k) p =
        let low = index.within k s t p in
        let no : (j == k) ≡ false = grind (arith, nat_tests) in
        rw p (sym no)

pub grown_index : (old new : List (List Tick)) (place : ℕ → ℕ → Option ℕ) → Grown old new → IsIndexed old place → IsIndexed new place
grown_index old new place grown index = elim grown [
  | inl e ↦ subst (λ (bs : List (List Tick)). IsIndexed bs place) (sym e) index
  | inr e ↦ subst (λ (bs : List (List Tick)). IsIndexed bs place) (sym e) (empty_added old place index)
]

pub grown_flat : (old new : List (List Tick)) → Grown old new → flat new ≡ flat old
grown_flat old new grown = elim grown [
  | inl e ↦ ap flat e
  | inr e ↦ ap flat e ∙ flat_map-append (λ (b : List Tick). b) old ([] ∷ []) ∙ append-nil (flat old)
]

-- one more tick at the end of the last block
flat_set_last : (mid : List (List Tick)) (k : ℕ) (t : Tick) → k + 1 ≡ length mid → flat (set mid k (get_or mid k [] ++ t ∷ [])) ≡ flat mid ++ t ∷ []
flat_set_last [] k t e = absurd (omega arith)
flat_set_last (x ∷ []) zero t e = rw (append-nil (x ++ t ∷ []), append-nil x) refl
flat_set_last (x ∷ y ∷ ys) zero t e = absurd (omega arith)
flat_set_last (x ∷ xs) (suc k) t e = ap (λ ts. x ++ ts) (flat_set_last xs k t (omega arith)) ∙ sym (append_assoc x (flat xs) (t ∷ []))

pub put_flat : (old new : List (List Tick)) (k : ℕ) (t : Tick) → PutLast old new k t → flat new ≡ flat old ++ t ∷ []
put_flat old new k t p = ap flat p.put ∙ flat_set_last p.mid k t p.last ∙ ap (λ ts. ts ++ t ∷ []) (grown_flat old p.mid p.grown)

pub between_other : (s t u v : ℕ) → pair_eq (s, t) (u, v) ≡ false → ((u == s) && (v == t)) ≡ false
between_other s t u v h = grind (arith, nat_tests)

between_own : (s t : ℕ) → ((s == s) && (t == t)) ≡ true
between_own s t = rw (nat_refl s, nat_refl t) refl

or_no : (b : Bool) → (b || false) ≡ b
or_no true = refl
or_no false = refl

or_yes : (b : Bool) → (b || true) ≡ true
or_yes true = refl
or_yes false = refl

-- the index with one more pair, whose tick is put last
pub put_index : (old new : List (List Tick)) (k : ℕ) (x : Tick) (place place' : ℕ → ℕ → Option ℕ) → PutLast old new k x → IsIndexed old place → place x.source x.target ≡ None
    → ((u v : ℕ) → place' u v ≡ cond (pair_eq (x.source, x.target) (u, v)) (Some k) (place u v)) → IsIndexed new place'
put_index old new k x place place' p index none after =
    subst (λ (bs : List (List Tick)). IsIndexed bs place') (sym p.put) (record {
      found = λ j u v y e. elim (set_cases p.mid k j (get_or p.mid k [] ++ x ∷ []) y e) [
        | inl h ↦ at_k j u v y h.0 (sym h.1) (pair_eq (x.source, x.target) (u, v)) refl
        | inr h ↦ elsewhere j u v y h.0 h.1 (pair_eq (x.source, x.target) (u, v)) refl
      ];
      within = λ m u v e. rw (length-set p.mid k (get_or p.mid k [] ++ x ∷ [])) (stays m u v e (pair_eq (x.source, x.target) (u, v)) refl);
    })
  where
    mid : IsIndexed p.mid place
    mid = grown_index old p.mid place p.grown index

    at_k : (j u v : ℕ) (y : List Tick) → j ≡ k → y ≡ get_or p.mid k [] ++ x ∷ [] → (c : Bool) → pair_eq (x.source, x.target) (u, v) ≡ c → list_any (is_between u v) y ≡ is_at j (place' u v)
    at_k j u v y e f true q =
        let (a, d) = same_test x.source x.target u v q in
        rw (after u v, q, f, e, nat_refl k) (list_any-append (is_between u v) (get_or p.mid k []) (x ∷ []) ∙ rw (← a, ← d, between_own x.source x.target) (or_yes (list_any (is_between x.source x.target) (get_or p.mid k []))))
    at_k j u v y e f false q =
        let (b, at) = stands p.mid k (let l = p.last in omega arith) in
        let here : get_or p.mid k [] ≡ b = get_or_from_slice_get p.mid k b [] at in
        rw (after u v, q, f, e) (list_any-append (is_between u v) (get_or p.mid k []) (x ∷ []) ∙ rw (between_other x.source x.target u v q, here) (or_no (list_any (is_between u v) b) ∙ mid.found k u v b at))

    elsewhere : (j u v : ℕ) (y : List Tick) → j ≢ k → slice_get p.mid j ≡ Some y → (c : Bool) → pair_eq (x.source, x.target) (u, v) ≡ c → list_any (is_between u v) y ≡ is_at j (place' u v)
    elsewhere j u v y d e true q =
        let (a, f) = same_test x.source x.target u v q in
        let no : (j == k) ≡ false = grind (arith, nat_tests) in
        rw (after u v, q, ← a, ← f, no) (mid.found j x.source x.target y e ∙ ap (is_at j) none)
    elsewhere j u v y d e false q = rw (after u v, q) (mid.found j u v y e)

    stays : (m u v : ℕ) → place' u v ≡ Some m → (c : Bool) → pair_eq (x.source, x.target) (u, v) ≡ c → m < length p.mid
    stays m u v e true q = let g : Some k ≡ Some m = rw (after u v, q) at e in let h : k ≡ m = cc in let l = p.last in omega arith
    stays m u v e false q = mid.within m u v (rw (after u v, q) at e)

abbrev pub Block : Type 0
Block = Vec Tick Global

abbrev pub lists : List Block → List (List Tick)
lists blocks = map (λ (b : Block). b.items) blocks

-- the tick of a block in the walk over the blocks
pub found_in : (blocks : List Block) (at i left : ℕ) (v : Block) (x : Tick) → slice_get (flat (lists blocks)) at ≡ slice_get (flat (drop i (lists blocks))) left → i < length blocks → v ≡ get_or blocks i v
    → left < length v.items → x ≡ get_or v.items left x → Some x ≡ slice_get (flat (lists blocks)) at
found_in blocks at i left v x walk h is low here =
    let more : i < length (lists blocks) = omega (arith, length-map blocks (λ (b : Block). b.items)) in
    let block : v.items ≡ get_or (lists blocks) i v.items = sym (get_or-map (λ (b : Block). b.items) blocks i v v.items h ∙ ap (λ (b : Block). b.items) (sym is)) in
    sym (walk ∙ tick_in (lists blocks) i left v.items x more block low (slice_get_read v.items (length v.items) left x refl low here))

-- the walk goes on past a block
pub goes_on : (blocks : List Block) (at i left : ℕ) (v : Block) → slice_get (flat (lists blocks)) at ≡ slice_get (flat (drop i (lists blocks))) left → i < length blocks → v ≡ get_or blocks i v
    → length v.items ≤ left → slice_get (flat (lists blocks)) at ≡ slice_get (flat (drop (i + 1) (lists blocks))) (left - length v.items)
goes_on blocks at i left v walk h is high =
    let more : i < length (lists blocks) = omega (arith, length-map blocks (λ (b : Block). b.items)) in
    let block : v.items ≡ get_or (lists blocks) i v.items = sym (get_or-map (λ (b : Block). b.items) blocks i v v.items h ∙ ap (λ (b : Block). b.items) (sym is)) in
    walk ∙ tick_past (lists blocks) i left v.items more block high

pub place_in : (blocks : List Block) (k : ℕ) → k < length (lists blocks) → k < length blocks
place_in blocks k h = omega (arith, length-map blocks (λ (b : Block). b.items))

pub stands_at : (blocks : List Block) (k : ℕ) (v : Block) → k < length blocks → v ≡ get_or blocks k v → slice_get (lists blocks) k ≡ Some v.items
stands_at blocks k v h at = slice_get-map (λ (b : Block). b.items) blocks k ∙ rw (slice_get_read blocks (length blocks) k v refl h at) refl

-- the index after a tick was taken out of its block
pub taken_index : (blocks : List Block) (k : ℕ) (v new : Block) (place place' : ℕ → ℕ → Option ℕ) (s t : ℕ) → IsIndexed (lists blocks) place → place s t ≡ Some k → v ≡ get_or blocks k v
    → new.items ≡ filter (λ x. not (is_between s t x)) v.items → ((u w : ℕ) → place' u w ≡ cond (pair_eq (s, t) (u, w)) None (place u w)) → IsIndexed (lists (set blocks k new)) place'
taken_index blocks k v new place place' s t index here at is after =
    subst (λ (bs : List (List Tick)). IsIndexed bs place') (sym (map-set (λ (b : Block). b.items) blocks k new))
    (removed_index (lists blocks) place place' s t k v.items new.items index here (stands_at blocks k v (place_in blocks k (index.within k s t here)) at) is after)

-- the ticks after one was taken out of its block
pub taken_flat : (blocks : List Block) (k : ℕ) (v new : Block) (place : ℕ → ℕ → Option ℕ) (s t : ℕ) → IsIndexed (lists blocks) place → place s t ≡ Some k → v ≡ get_or blocks k v
    → new.items ≡ filter (λ x. not (is_between s t x)) v.items → flat (lists (set blocks k new)) ≡ filter (λ x. not (is_between s t x)) (flat (lists blocks))
taken_flat blocks k v new place s t index here at is =
    ap flat (map-set (λ (b : Block). b.items) blocks k new)
    ∙ filter_flat (is_between s t) (lists blocks) k v.items new.items (stands_at blocks k v (place_in blocks k (index.within k s t here)) at) is
    (λ j x d e. index.found j s t x e ∙ ap (is_at j) here ∙ (let no : (j == k) ≡ false = grind (arith, nat_tests) in no))

-- how many ticks are left
pub taken_length : (blocks : List Block) (k : ℕ) (v new : Block) → k < length blocks → v ≡ get_or blocks k v → length (flat (lists (set blocks k new))) + length v.items ≡ length (flat (lists blocks)) + length new.items
taken_length blocks k v new h at =
    rw (map-set (λ (b : Block). b.items) blocks k new) (length_set_flat (lists blocks) k v.items new.items (stands_at blocks k v h at))

-- a pair without place has no tick to take away
pub none_taken : (blocks : List Block) (place : ℕ → ℕ → Option ℕ) (s t : ℕ) → IsIndexed (lists blocks) place → place s t ≡ None → flat (lists blocks) ≡ filter (λ x. not (is_between s t x)) (flat (lists blocks))
none_taken blocks place s t index none =
    sym (all_kept (is_between s t) (lists blocks) (λ j b e. index.found j s t b e ∙ ap (is_at j) none))

-- a tick at the end of the last block, whose other ticks are as they were
pub put_in : (old mid : List Block) (k : ℕ) (v new : Block) (t : Tick) → Grown (lists old) (lists mid) → k + 1 ≡ length mid → v ≡ get_or mid k v → new.items ≡ v.items ++ t ∷ [] → PutLast (lists old) (lists (set mid k new)) k t
put_in old mid k v new t grown last at is =
    let h : k < length mid = omega arith in
    record {
      mid = lists mid;
      grown = grown;
      last = omega (arith, length-map mid (λ (b : Block). b.items));
      put = map-set (λ (b : Block). b.items) mid k new ∙ ap (set (lists mid) k) (is ∙ ap (λ ts. ts ++ t ∷ []) (sym (get_or_from_slice_get (lists mid) k v.items [] (stands_at mid k v h at))));
    }

-- a write that leaves the ticks of the block
pub same_in : (mid : List Block) (k : ℕ) (v new : Block) → v ≡ get_or mid k v → new.items ≡ v.items → lists (set mid k new) ≡ lists mid
same_in mid k v new at is = map-set_same (λ (b : Block). b.items) mid k new v (is ∙ ap (λ (b : Block). b.items) at)

pub grown_push : (old : List Block) (b : Block) → b.items ≡ [] → Grown (lists old) (lists (old ++ b ∷ []))
grown_push old b e = inr (map-append (λ (x : Block). x.items) old (b ∷ []) ∙ rw e refl)

-- an index that gives the same places
pub index_same : (blocks : List (List Tick)) (place place' : ℕ → ℕ → Option ℕ) → IsIndexed blocks place → ((s t : ℕ) → place' s t ≡ place s t) → IsIndexed blocks place'
index_same blocks place place' index same = record {
  found = λ j s t b e. index.found j s t b e ∙ ap (is_at j) (sym (same s t));
  within = λ k s t e. index.within k s t (sym (same s t) ∙ e);
}

pub none_of : (o : Option ℕ) → is_some o ≡ false → o ≡ None
none_of None h = refl
none_of (Some k) h = cc
