-- How many different roots forks have, when some are away or others.
use Rattle.std.proofs.Common.{◌≡◌, ℕ, ◌≤◌, ◌==◌, ◌||◌, List, [], ◌∷◌, ◌++◌, length, map, nat_eq, Bool, true, false, refl, sym, ap, subst, ◌∙◌, arith, if◌then◌else◌}
use Rattle.std.specs.List.{IsDistinct, list_any, remove}
use Rattle.std.specs.Cmp.{nat_eq_equiv}
use Rattle.std.proofs.lemmas.Bool.Decides.{nat_tests}
use Rattle.std.proofs.lemmas.List.{length-map}
use Rattle.std.proofs.lemmas.List.Folds.{list_any-append}
use Rattle.std.proofs.lemmas.Map.Keys.{IsDistinct-push}
use Rattle.std.proofs.lemmas.Map.Made.{length-le_from_is_member}
use Rattle.indexmap.proofs.SetLemmas.{map-remove}
use Rattle.netlist_model.specs.Circuit.{kinds_after, roots_of}
use Rattle.netlist_model.specs.declared.parts.Fork.{Fork}
use Rattle.netlist_model.proofs.Entries.{any_remove}
use Rattle.netlist_model.proofs.Places.{list_any-map}

kinds_distinct : (before xs : List ℕ) → IsDistinct nat_eq before → IsDistinct nat_eq (kinds_after before xs)
unfolding kinds_after
kinds_distinct before [] h = h
kinds_distinct before (x ∷ xs) h = kinds_distinct (if list_any (λ y. x == y) before then before else before ++ x ∷ []) xs (by (list_any (λ y. x == y) before) refl)
  where
    by : (b : Bool) → list_any (λ y. x == y) before ≡ b → IsDistinct nat_eq (if b then before else before ++ x ∷ [])
    by true e = h
    by false e = IsDistinct-push nat_eq_equiv before x h e

-- a number that stands already passes no test that none of the others passes
any_again : (p : ℕ → Bool) (x : ℕ) (xs : List ℕ) → list_any (nat_eq x) xs ≡ true → p x ≡ true → list_any p xs ≡ true
any_again p x [] h k = cc
any_again p x (y ∷ ys) h k = by (nat_eq x y) refl h (λ f. any_again p x ys f k)
  where
    or_true : (b : Bool) → (b || true) ≡ true
    or_true true = refl
    or_true false = refl

    by : (b : Bool) → nat_eq x y ≡ b → (b || list_any (nat_eq x) ys) ≡ true → (list_any (nat_eq x) ys ≡ true → list_any p ys ≡ true) → (p y || list_any p ys) ≡ true
    by true e f rest = let same : x ≡ y = grind (arith, nat_tests) in let g : p y ≡ true = ap p (sym same) ∙ k in rw g refl
    by false e f rest = rw (rest f) (or_true (p y))

-- the different numbers pass a test where the numbers do
kinds_any : (p : ℕ → Bool) (before xs : List ℕ) → list_any p (kinds_after before xs) ≡ (list_any p before || list_any p xs)
unfolding kinds_after
kinds_any p before [] = by (list_any p before)
  where
    by : (b : Bool) → b ≡ (b || false)
    by true = refl
    by false = refl
kinds_any p before (x ∷ xs) =
    kinds_any p (if list_any (λ y. x == y) before then before else before ++ x ∷ []) xs ∙ by (list_any (λ y. x == y) before) refl
  where
    known : (a b c : Bool) → (b ≡ true → a ≡ true) → (a || c) ≡ (a || (b || c))
    known true b c h = refl
    known false true c h = let f : false ≡ true = h refl in cc
    known false false c h = refl

    added : (a b c : Bool) → ((a || (b || false)) || c) ≡ (a || (b || c))
    added true b c = refl
    added false true c = refl
    added false false c = refl

    by : (b : Bool) → list_any (λ y. x == y) before ≡ b
        → (list_any p (if b then before else before ++ x ∷ []) || list_any p xs) ≡ (list_any p before || (p x || list_any p xs))
    by true e = known (list_any p before) (p x) (list_any p xs) (λ h. any_again p x before e h)
    by false e = rw (list_any-append p before (x ∷ [])) (added (list_any p before) (p x) (list_any p xs))

-- numbers that are all among others are of no more kinds
fewer_kinds : (xs ys : List ℕ) → ((q : ℕ) → list_any (nat_eq q) xs ≡ true → list_any (nat_eq q) ys ≡ true) → length (kinds_after [] xs) ≤ length ys
unfolding IsDistinct
fewer_kinds xs ys within =
    length-le_from_is_member nat_eq_equiv (kinds_after [] xs) ys (kinds_distinct [] xs tt) (λ q h. within q (sym (kinds_any (nat_eq q) [] xs) ∙ h))

pub roots_remove : (forks : List Fork) (at : ℕ) → length (roots_of (remove forks at)) ≤ length (roots_of forks)
roots_remove forks at =
    let roots = map (λ (f : Fork). f.root) forks in
    let e : map (λ (f : Fork). f.root) (remove forks at) ≡ remove roots at = map-remove (λ (f : Fork). f.root) forks at in
    subst (λ (rs : List ℕ). length (kinds_after [] rs) ≤ length (kinds_after [] roots)) (sym e)
    (fewer_kinds (remove roots at) (kinds_after [] roots) (λ q h. kinds_any (nat_eq q) [] roots ∙ any_remove (nat_eq q) roots at h))

-- forks whose roots are given by those before
pub roots_map : (g : ℕ → ℕ) (f : Fork → Fork) (forks : List Fork) → ((x : Fork) → (f x).root ≡ g x.root) → length (roots_of (map f forks)) ≤ length (roots_of forks)
roots_map g f forks by_root =
    let roots = map (λ (x : Fork). x.root) forks in
    let e : map (λ (x : Fork). x.root) (map f forks) ≡ map g roots = moved forks in
    let few : length (kinds_after [] (map g roots)) ≤ length (map g (kinds_after [] roots)) =
    fewer_kinds (map g roots) (map g (kinds_after [] roots))
    (λ q h. list_any-map g (nat_eq q) (kinds_after [] roots) ∙ kinds_any (λ x. nat_eq q (g x)) [] roots ∙ sym (list_any-map g (nat_eq q) roots) ∙ h) in
    subst (λ (rs : List ℕ). length (kinds_after [] rs) ≤ length (kinds_after [] roots)) (sym e) (omega (arith, few, length-map (kinds_after [] roots) g))
  where
    moved : (xs : List Fork) → map (λ (x : Fork). x.root) (map f xs) ≡ map g (map (λ (x : Fork). x.root) xs)
    moved [] = refl
    moved (x ∷ xs) = rw (by_root x, moved xs) refl
