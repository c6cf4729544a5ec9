-- Pairs of two lists, in two halves.
use Rattle.std.proofs.Common.{◌≡◌, ℕ, ◌<◌, List, [], ◌∷◌, ◌++◌, length, take, drop, sym, ap, ◌∙◌, subst, arith, length-append}
use Rattle.std.specs.List.{AllZip}
use Rattle.std.proofs.lemmas.List.{take-append-drop}

module _ {A B : Type 0} (R : A → B → Type 0) where
  zip_append : (xs us : List A) (ys vs : List B) → AllZip R xs ys → AllZip R us vs → AllZip R (xs ++ us) (ys ++ vs)
  zip_append [] us [] vs p q = q
  zip_append [] us (y ∷ ys) vs p q = absurd p
  zip_append (x ∷ xs) us [] vs p q = absurd p
  zip_append (x ∷ xs) us (y ∷ ys) vs p q = (p.0, zip_append xs us ys vs p.1 q)

  pub zip_halves : (n : ℕ) (all low high : List A) (ys vs zs : List B) → low ≡ take n all → high ≡ drop n all → zs ≡ ys ++ vs → AllZip R low ys → AllZip R high vs → AllZip R all zs
  zip_halves n all low high ys vs zs l h z p q =
      let whole : all ≡ low ++ high = sym (take-append-drop n all) ∙ (λ i. sym l i ++ sym h i) in
      subst (λ xs. AllZip R xs zs) (sym whole) (subst (AllZip R (low ++ high)) (sym z) (zip_append low high ys vs p q))

-- one pair
pub one_zip : {A B : Type 0} (R : A → B → Type 0) (xs front : List A) (x : A) (ys : List B) (y : B) → xs ≡ front ++ x ∷ [] → length xs < 2 → ys ≡ y ∷ [] → R x y → AllZip R xs ys
one_zip R xs [] x ys y e f g r = subst (λ zs. AllZip R zs ys) (sym e) (subst (AllZip R (x ∷ [])) (sym g) (r, tt))
one_zip R xs (z ∷ front) x ys y e f g r = let n = ap length e in let m = length-append front (x ∷ []) in absurd (omega arith)

pub none_zip : {A B : Type 0} (R : A → B → Type 0) (xs : List A) (ys : List B) → xs ≡ [] → ys ≡ [] → AllZip R xs ys
none_zip R xs ys e f = subst (λ zs. AllZip R zs ys) (sym e) (subst (AllZip R []) (sym f) tt)
