-- Sums over the views.
use Rattle.std.proofs.Common.{◌≡◌, ◌≢◌, ℕ, zero, suc, ◌+◌, ◌<◌, ◌≤◌, List, [], ◌∷◌, ◌++◌, set, lt_of_not-le, refl, sym, ap, arith}
use Rattle.std.proofs.lemmas.Bool.Decides.{nat_tests}
use mathlib.Core.Logic.{dite}
use mathlib.Core.Option.{some, some-injective, some-ne-none}
use native.Mathlib.Decide.{ℕ_discrete, dec_le}
use lib.ListN.{get_elem?}
use Rattle.turn_book.specs.Views.{total_of, one_if}
use Rattle.turn_book.specs.Rule.{Counts}

module _ {A : Type 0} (f : A → ℕ) where
  pub total_set : (l : List A) (i : ℕ) (v w : A) → get_elem? l i ≡ some v → total_of f (set l i w) + f v ≡ total_of f l + f w
  total_set [] i v w e = absurd (some-ne-none v (sym e))
  total_set (x ∷ xs) zero v w e = let h : f x ≡ f v = ap f (some-injective x v e) in omega arith
  total_set (x ∷ xs) (suc i) v w e = let h = total_set xs i v w e in omega arith

  pub total_at : (l : List A) (i : ℕ) (v : A) → get_elem? l i ≡ some v → f v ≤ total_of f l
  total_at [] i v e = absurd (some-ne-none v (sym e))
  total_at (x ∷ xs) zero v e = let h : f x ≡ f v = ap f (some-injective x v e) in omega arith
  total_at (x ∷ xs) (suc i) v e = let h = total_at xs i v e in omega arith

  pub total_two : (l : List A) (i j : ℕ) (v w : A) → i ≢ j → get_elem? l i ≡ some v → get_elem? l j ≡ some w → f v + f w ≤ total_of f l
  total_two [] i j v w n e d = absurd (some-ne-none v (sym e))
  total_two (x ∷ xs) zero zero v w n e d = absurd (n refl)
  total_two (x ∷ xs) zero (suc j) v w n e d = let h : f x ≡ f v = ap f (some-injective x v e) in let k = total_at xs j w d in omega arith
  total_two (x ∷ xs) (suc i) zero v w n e d = let h : f x ≡ f w = ap f (some-injective x w d) in let k = total_at xs i v e in omega arith
  total_two (x ∷ xs) (suc i) (suc j) v w n e d = let h = total_two xs i j v w (λ s. n (ap suc s)) e d in omega arith

  pub total_snoc : (l : List A) (a : A) → total_of f (l ++ a ∷ []) ≡ total_of f l + f a
  total_snoc [] a = omega arith
  total_snoc (x ∷ xs) a = let h = total_snoc xs a in omega arith

  pub total_find : (l : List A) → 0 < total_of f l → (i : ℕ) × (v : A) × (get_elem? l i ≡ some v) × (0 < f v)
  total_find [] h = absurd (omega arith)
  total_find (x ∷ xs) h = dite (ℕ_discrete (f x) 0)
      (λ z. let t = total_find xs (omega arith) in (suc t.0, t.1, t.2, t.3))
      (λ n. (0, x, refl, omega arith))

pub total_le : {A : Type 0} (f g : A → ℕ) (l : List A) → ((i : ℕ) (v : A) → get_elem? l i ≡ some v → f v ≤ g v) → total_of f l ≤ total_of g l
total_le f g [] h = omega arith
total_le f g (x ∷ xs) h = let here : f x ≤ g x = h 0 x refl in let more = total_le f g xs (λ i v e. h (suc i) v e) in omega arith

pub one_same : (i k : ℕ) → i ≡ k → one_if i k ≡ 1
one_same i k e = grind (arith, nat_tests)

pub one_other : (i k : ℕ) → i ≢ k → one_if i k ≡ 0
one_other i k n = grind (arith, nat_tests)

pub one_most : (i k : ℕ) → one_if i k ≤ 1
one_most i k = dite (ℕ_discrete i k) (λ e. let h = one_same i k e in omega arith) (λ n. let h = one_other i k n in omega arith)

pub count_most : (a b k c : ℕ) → Counts a b k c → c ≤ 1
count_most a b k c t = dite (dec_le a k)
    (λ p. dite (dec_le b k) (λ q. let z = t.2 q in omega arith) (λ q. let z = t.0 p (lt_of_not-le q) in omega arith))
    (λ p. let z = t.1 (lt_of_not-le p) in omega arith)

pub count_within : (a b k c : ℕ) → Counts a b k c → 0 < c → (a ≤ k) × (k < b)
count_within a b k c t pos = dite (dec_le a k)
    (λ p. dite (dec_le b k) (λ q. absurd (let z = t.2 q in omega arith)) (λ q. (p, lt_of_not-le q)))
    (λ p. absurd (let z = t.1 (lt_of_not-le p) in omega arith))
