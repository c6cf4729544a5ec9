-- A list that is written whole.
use Rattle.std.proofs.Common.{◌≡◌, ℕ, List, [], ◌∷◌, ◌++◌, length, take, drop, refl, sym, ap, ◌∙◌, arith}
use Rattle.std.proofs.lemmas.List.{append-nil}
use Rattle.std.proofs.Math.ListN.{drop_of_length-le}

take_whole : {A : Type 0} (xs : List A) → take (length xs) xs ≡ xs
take_whole [] = refl
take_whole (x ∷ xs) = ap (λ l. x ∷ l) (take_whole xs)

-- what a list holds after a write to all of it
pub written : {A : Type 0} (xs ys : List A) (n : ℕ) → length xs ≡ length ys → n ≡ length ys → take n (xs ++ drop (length xs) ys) ≡ xs
written xs ys n e m =
    let len : n ≡ length xs = m ∙ sym e in
    (λ j. take (len j) (xs ++ drop_of_length-le ys {i = length xs} (let h = e in omega arith) j)) ∙ (ap (take (length xs)) (append-nil xs) ∙ take_whole xs)
