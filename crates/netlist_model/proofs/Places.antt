-- The first place that passes a test.
use Rattle.std.proofs.Common.{◌≡◌, ℕ, ◌+◌, ◌<◌, List, [], ◌∷◌, ◌++◌, ◌||◌, length, map, suc, zero, slice_get, Bool, true, false, Option, Some, None, option_map, position, refl, sym, ap, ◌∙◌, arith, if◌then◌else◌}
use Rattle.std.specs.List.{list_any, position_or_len}
use Rattle.std.proofs.lemmas.List.{length-map}
use Rattle.std.proofs.lemmas.List.Folds.{list_any-append}
use Rattle.std.proofs.lemmas.List.Quantifiers.{position-Some}
use Rattle.std.proofs.lemmas.Bool.Decides.{nat_tests}
use Rattle.std.proofs.lemmas.Grind.{common_steps}
use Rattle.cell_arcs.specs.Steps.{or_else}
use Rattle.netlist_model.specs.EventNames.{name_at}

pub position_or_len-map : {A B : Type 0} (f : A → B) (p : B → Bool) (xs : List A) → position_or_len p (map f xs) ≡ position_or_len (λ x. p (f x)) xs
position_or_len-map f p [] = refl
position_or_len-map f p (x ∷ xs) = rw (position_or_len-map f p xs) refl

pub position-map : {A B : Type 0} (f : A → B) (p : B → Bool) (xs : List A) → position p (map f xs) ≡ position (λ x. p (f x)) xs
position-map f p xs = rw (position_or_len-map f p xs, length-map xs f) refl

pub list_any-map : {A B : Type 0} (f : A → B) (p : B → Bool) (xs : List A) → list_any p (map f xs) ≡ list_any (λ x. p (f x)) xs
list_any-map f p [] = refl
list_any-map f p (x ∷ xs) = rw (list_any-map f p xs) refl

-- the first place, by the list's head
pub position-cons : {A : Type 0} (p : A → Bool) (x : A) (xs : List A) → position p (x ∷ xs) ≡ (if p x then Some 0 else option_map (λ k. 1 + k) (position p xs))
position-cons p x xs = by (p x) refl
  where
    by : (b : Bool) → p x ≡ b → position p (x ∷ xs) ≡ (if b then Some 0 else option_map (λ k. 1 + k) (position p xs))
    by true e = grind (arith, nat_tests, common_steps)
    by false e = grind (arith, nat_tests, common_steps)

-- one more at the end
pub position_push : {A : Type 0} (p : A → Bool) (xs : List A) (x : A) → position p (xs ++ x ∷ []) ≡ or_else (position p xs) (if p x then Some (length xs) else None)
position_push p [] x = position-cons p x []
position_push p (y ∷ xs) x =
    position-cons p y (xs ++ x ∷ []) ∙ rw (position_push p xs x, position-cons p y xs) (by (p y) (position p xs) (p x))
  where
    by : (b : Bool) (o : Option ℕ) (c : Bool) → (if b then Some 0 else option_map (λ k. 1 + k) (or_else o (if c then Some (length xs) else None))) ≡ or_else (if b then Some 0 else option_map (λ k. 1 + k) o) (if c then Some (length (y ∷ xs)) else None)
    by true o c = refl
    by false (Some k) c = refl
    by false None true = let e : 1 + length xs ≡ length (y ∷ xs) = omega arith in ap Some e
    by false None false = refl

-- none passes
pub none_passes : {A : Type 0} (p : A → Bool) (xs : List A) → position p xs ≡ None → list_any p xs ≡ false
none_passes p [] e = refl
none_passes p (x ∷ xs) e = by (p x) (position p xs) refl refl (sym (position-cons p x xs) ∙ e) (none_passes p xs)
  where
    by : (b : Bool) (o : Option ℕ) → p x ≡ b → position p xs ≡ o → (if b then Some 0 else option_map (λ k. 1 + k) o) ≡ None → (position p xs ≡ None → list_any p xs ≡ false) → list_any p (x ∷ xs) ≡ false
    by true o e1 e2 h rest = cc
    by false (Some k) e1 e2 h rest = cc
    by false None e1 e2 h rest = rw (e1, rest e2) refl

-- the first place that passes is a place of the list
pub position_within : {A : Type 0} (p : A → Bool) (xs : List A) (i : ℕ) → position p xs ≡ Some i → i < length xs
position_within p [] i e = cc
position_within p (x ∷ xs) i e = (position-Some p (x ∷ xs) i x e).0

-- one more at the end
pub any_push : {A : Type 0} (p : A → Bool) (xs : List A) (x : A) → list_any p (xs ++ x ∷ []) ≡ (list_any p xs || p x)
any_push p xs x = list_any-append p xs (x ∷ []) ∙ by (list_any p xs) (p x)
  where
    by : (a b : Bool) → (a || (b || false)) ≡ (a || b)
    by true b = refl
    by false true = refl
    by false false = refl

-- what stands at a place of the list
pub stands : {A : Type 0} (xs : List A) (k : ℕ) → k < length xs → (x : A) × (slice_get xs k ≡ Some x)
stands [] k h = absurd (omega arith)
stands (x ∷ xs) zero h = (x, refl)
stands (x ∷ xs) (suc k) h = stands xs k (omega arith)

-- the name that stands at a place
pub name_stands : (names : List (List ℕ)) (at : ℕ) (name : List ℕ) → slice_get names at ≡ Some name → name_at names at ≡ name
name_stands names at name h = rw h refl
