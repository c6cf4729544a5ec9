-- Lists with an entry taken away.
use Rattle.std.proofs.Common.{◌≡◌, ◌≢◌, ℕ, ◌+◌, ◌<◌, ◌++◌, List, [], ◌∷◌, length, map, set, take, drop, suc, zero, Bool, true, false, nat_lt, Option, Some, None, option_map, position, get_or, refl, sym, ap, ◌∙◌, arith, All, slice_get, if◌then◌else◌}
use Rattle.std.specs.List.{IsDistinct, list_any, remove}
use Rattle.std.specs.Str.{bytes_eq}
use Rattle.std.proofs.lemmas.Cmp.{nat_list_eq_equiv}
use Rattle.std.proofs.lemmas.Bool.Decides.{nat_tests}
use Rattle.std.proofs.lemmas.List.{append-nil, drop_all, length-map, take_all}
use Rattle.std.proofs.lemmas.List.Elements.{All-take, All-drop, All-append}
use Rattle.std.proofs.lemmas.Map.Keys.{apart_from_distinct}
use Rattle.std.proofs.lemmas.List.Edits.{map_over_more}
use Rattle.std.proofs.lemmas.Option.{get_or_from_slice_get, slice_get-get_or, slice_get_within}
use Rattle.netlist_model.specs.Deletions.{moved_up}
use Rattle.netlist_model.proofs.Places.{position-cons}

pub moved_up_suc : (gone k : ℕ) → moved_up (suc gone) (suc k) ≡ suc (moved_up gone k)
moved_up_suc gone k = grind (arith, nat_tests)

moved_up_past : (k : ℕ) → moved_up 0 (suc k) ≡ k
moved_up_past k = grind (arith, nat_tests)

moved_up_first : (gone : ℕ) → moved_up (suc gone) 0 ≡ 0
moved_up_first gone = grind (arith, nat_tests)

-- one more place at the front
first_more : Bool → Option ℕ → Option ℕ
first_more b o = if b then Some 0 else option_map (λ k. 1 + k) o

more_moved : (gone : ℕ) (b : Bool) (o : Option ℕ) → first_more b (option_map (moved_up gone) o) ≡ option_map (moved_up (suc gone)) (first_more b o)
unfolding first_more
more_moved gone true o = ap Some (sym (moved_up_first gone))
more_moved gone false None = refl
more_moved gone false (Some k) =
    let one : 1 + k ≡ suc k = omega arith in
    let two : 1 + moved_up gone k ≡ suc (moved_up gone k) = omega arith in
    ap Some (two ∙ sym (moved_up_suc gone k) ∙ ap (moved_up (suc gone)) (sym one))

none_moved : (o : Option ℕ) → o ≡ option_map (moved_up 0) (option_map (λ k. 1 + k) o)
none_moved None = refl
none_moved (Some k) =
    let one : 1 + k ≡ suc k = omega arith in
    ap Some (sym (ap (moved_up 0) one ∙ moved_up_past k))

position-first : {A : Type 0} (p : A → Bool) (x : A) (xs : List A) → position p (x ∷ xs) ≡ first_more (p x) (position p xs)
unfolding first_more
position-first p x xs = position-cons p x xs

-- the first place that passes, once an entry that fails is away
pub position_without : {A : Type 0} (p : A → Bool) (xs : List A) (gone : ℕ) (x : A) → slice_get xs gone ≡ Some x → p x ≡ false → position p (remove xs gone) ≡ option_map (moved_up gone) (position p xs)
position_without p [] gone x at fails = cc
position_without p (y ∷ ys) zero x at fails =
    let same : y ≡ x = cc in
    let no : p y ≡ false = ap p same ∙ fails in
    none_moved (position p ys) ∙ ap (option_map (moved_up 0)) (sym (position-cons p y ys ∙ rw no refl))
position_without p (y ∷ ys) (suc gone) x at fails =
    position-first p y (remove ys gone) ∙ ap (first_more (p y)) (position_without p ys gone x at fails) ∙ more_moved gone (p y) (position p ys) ∙ ap (option_map (moved_up (suc gone))) (sym (position-first p y ys))

pub not_true : (b : Bool) → (b ≡ true → ⊥) → b ≡ false
not_true true h = absurd (h refl)
not_true false h = refl

-- no place passes
pub none_at : {A : Type 0} (p : A → Bool) (xs : List A) → ((k : ℕ) (y : A) → slice_get xs k ≡ Some y → p y ≡ false) → position p xs ≡ None
none_at p [] h = refl
none_at p (y ∷ ys) h = position-cons p y ys ∙ rw (h 0 y refl, none_at p ys (λ k z e. h (suc k) z e)) refl

-- the first place that passes, once the only one that does is away
pub position_alone : {A : Type 0} (p : A → Bool) (xs : List A) (gone : ℕ) (x : A) → slice_get xs gone ≡ Some x → ((k : ℕ) (y : A) → slice_get xs k ≡ Some y → p y ≡ true → k ≡ gone) → position p (remove xs gone) ≡ None
position_alone p [] gone x at only = cc
position_alone p (y ∷ ys) zero x at only = none_at p ys (λ k z e. not_true (p z) (λ t. let g = only (suc k) z e t in absurd (omega arith)))
position_alone p (y ∷ ys) (suc gone) x at only =
    let no : p y ≡ false = not_true (p y) (λ t. let g = only 0 y refl t in absurd (omega arith)) in
    position-cons p y (remove ys gone) ∙ rw (no, position_alone p ys gone x at (λ k z e t. let g = only (suc k) z e t in omega arith)) refl

-- what stands at a place that stays
pub slice_get_without : {A : Type 0} (xs : List A) (gone k : ℕ) → k ≢ gone → slice_get (remove xs gone) (moved_up gone k) ≡ slice_get xs k
slice_get_without [] zero k other = refl
slice_get_without [] (suc gone) k other = refl
slice_get_without (x ∷ xs) zero zero other = absurd (other refl)
slice_get_without (x ∷ xs) zero (suc k) other = ap (slice_get xs) (moved_up_past k)
slice_get_without (x ∷ xs) (suc gone) zero other = ap (slice_get (x ∷ remove xs gone)) (moved_up_first gone)
slice_get_without (x ∷ xs) (suc gone) (suc k) other =
    ap (slice_get (x ∷ remove xs gone)) (moved_up_suc gone k) ∙ slice_get_without xs gone k (λ e. other (ap suc e))

pub map-remove : {A B : Type 0} (f : A → B) (xs : List A) (gone : ℕ) → map f (remove xs gone) ≡ remove (map f xs) gone
map-remove f [] zero = refl
map-remove f [] (suc gone) = refl
map-remove f (x ∷ xs) zero = refl
map-remove f (x ∷ xs) (suc gone) = ap (λ ys. f x ∷ ys) (map-remove f xs gone)

pub All-remove : {A : Type 0} (P : A → Type 0) (xs : List A) (gone : ℕ) → All P xs → All P (remove xs gone)
All-remove P xs gone all = All-append P _ _ (All-take P gone xs all) (All-drop P (suc gone) xs all)

-- names that differ: a name stands at one place
pub one_place : (names : List (List ℕ)) (i j : ℕ) (x y : List ℕ) → IsDistinct bytes_eq names → slice_get names i ≡ Some x → slice_get names j ≡ Some y → x ≡ y → i ≡ j
one_place names i j x y differ at_i at_j same = by (nat_lt i j) (nat_lt j i) refl refl
  where
    equal : (u v : List ℕ) → u ≡ v → bytes_eq u v ≡ true
    equal u v e = rw e (nat_list_eq_equiv.refl v)

    apart : (k l : ℕ) (u v : List ℕ) → slice_get names k ≡ Some u → slice_get names l ≡ Some v → u ≡ v → k < l → ⊥
    apart k l u v at_k at_l e less =
        let one : get_or names k [] ≡ u = get_or_from_slice_get names k u [] at_k in
        let two : get_or names l [] ≡ v = get_or_from_slice_get names l v [] at_l in
        let no = apart_from_distinct bytes_eq names k l [] differ less (slice_get_within names l v at_l) in
        let yes = equal (get_or names k []) (get_or names l []) (one ∙ e ∙ sym two) in
        let g : true ≡ false = sym yes ∙ no in cc

    by : (b c : Bool) → nat_lt i j ≡ b → nat_lt j i ≡ c → i ≡ j
    by true c e f = absurd (apart i j x y at_i at_j same (grind (arith, nat_tests)))
    by false true e f = absurd (apart j i y x at_j at_i (sym same) (grind (arith, nat_tests)))
    by false false e f = grind (arith, nat_tests)

-- the one place that passes
pub position_only : {A : Type 0} (p : A → Bool) (xs : List A) (at : ℕ) (x : A) → slice_get xs at ≡ Some x → p x ≡ true → ((k : ℕ) (y : A) → slice_get xs k ≡ Some y → p y ≡ true → k ≡ at) → position p xs ≡ Some at
position_only p [] at x is passes only = cc
position_only p (y ∷ ys) zero x is passes only =
    let same : y ≡ x = cc in
    let yes : p y ≡ true = ap p same ∙ passes in
    position-cons p y ys ∙ rw yes refl
position_only p (y ∷ ys) (suc at) x is passes only =
    let no : p y ≡ false = not_true (p y) (λ t. let g = only 0 y refl t in absurd (omega arith)) in
    let one : 1 + at ≡ suc at = omega arith in
    position-cons p y ys ∙ rw (no, position_only p ys at x is passes (λ k z e t. let g = only (suc k) z e t in omega arith)) (ap Some one)

-- two tests that agree on what is not ruled out
pub position_agrees : {A : Type 0} (bad p q : A → Bool) (xs : List A) → list_any bad xs ≡ false → ((x : A) → bad x ≡ false → p x ≡ q x) → position p xs ≡ position q xs
position_agrees bad p q [] none same = refl
position_agrees bad p q (x ∷ xs) none same = by (bad x) refl (λ rest. position_agrees bad p q xs rest same)
  where
    by : (b : Bool) → bad x ≡ b → (list_any bad xs ≡ false → position p xs ≡ position q xs) → position p (x ∷ xs) ≡ position q (x ∷ xs)
    by true e more = let g : true ≡ false = rw e at none in cc
    by false e more =
        let rest : list_any bad xs ≡ false = rw e at none in
        position-cons p x xs ∙ rw (same x e, more rest) (sym (position-cons q x xs))

-- a list that is written over from the front, each element by a function of it
pub mapped_more : {A : Type 0} (f : A → A) (xs ys : List A) (i : ℕ) (d y : A) → i < length xs → length ys ≡ length xs → ys ≡ map f (take i xs) ++ drop i xs → y ≡ f (get_or ys i d)
    → set ys i y ≡ map f (take (i + 1) xs) ++ drop (i + 1) xs
mapped_more f xs ys i d y low same is new =
    let here : i < length ys = omega arith in
    ap (set ys i) new ∙ map_over_more f xs ys i (get_or ys i d) low is (sym (get_or_from_slice_get ys i (get_or ys i d) (get_or ys i d) (slice_get-get_or ys i d here)))

-- what a slice of the whole list leaves, each element written over by a function of it
pub written : {A : Type 0} (f : A → A) (new old : List A) (len : ℕ) → new ≡ map f old → len ≡ length old → take len (new ++ drop (length new) old) ≡ map f old
written f new old len is count =
    let same : length new ≡ length old = ap length is ∙ length-map old f in
    ap (λ xs. take len (new ++ xs)) (drop_all (length new) old (omega arith)) ∙ ap (take len) (append-nil new) ∙ take_all len new (omega arith) ∙ is

pub map_kept : {A B : Type 0} (f : A → B) (g : A → A) (xs : List A) → ((x : A) → f (g x) ≡ f x) → map f (map g xs) ≡ map f xs
map_kept f g [] same = refl
map_kept f g (x ∷ xs) same = rw (same x, map_kept f g xs same) refl

pub map_over : {A B : Type 0} (f : A → B) (g : A → A) (h : B → B) (xs : List A) → ((x : A) → f (g x) ≡ h (f x)) → map f (map g xs) ≡ map h (map f xs)
map_over f g h [] same = refl
map_over f g h (x ∷ xs) same = rw (same x, map_over f g h xs same) refl
