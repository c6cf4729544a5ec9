-- Names in lists: which are equal, and where one stands.
use Rattle.std.proofs.Common.{◌≡◌, ℕ, ◌+◌, List, [], ◌∷◌, map, Bool, true, false, Some, None, position, refl, sym, ◌∙◌, All, if◌then◌else◌}
use Rattle.std.specs.List.{list_any, position_or_len, position_from}
use Rattle.std.specs.Str.{bytes_eq}
use Rattle.std.specs.Cmp.Lexicographic.{bytes_decides}
use Rattle.std.proofs.lemmas.List.{length-map}
use Rattle.std.proofs.lemmas.List.Elements.{All-nil, All-cons}
use Rattle.std.proofs.lemmas.Iterator.Adapters.{position_from-zero}

-- equal bytes are the same list
pub same_bytes : (a b : List ℕ) → bytes_eq a b ≡ true → a ≡ b
same_bytes a b h = (bytes_decides a b).0 h

pub equal_bytes : (a b : List ℕ) → a ≡ b → bytes_eq a b ≡ true
equal_bytes a b h = (bytes_decides a b).1 h

pub list_any-map : {A B : Type 0} (f : A → B) (p : B → Bool) (xs : List A) → list_any p (map f xs) ≡ list_any (λ x. p (f x)) xs
list_any-map f p [] = refl
list_any-map f p (x ∷ xs) = rw (list_any-map f p xs) refl

position_or_len-map : {A B : Type 0} (f : A → B) (p : B → Bool) (xs : List A) → position_or_len p (map f xs) ≡ position_or_len (λ x. p (f x)) xs
position_or_len-map f p [] = refl
position_or_len-map f p (x ∷ xs) = rw (position_or_len-map f p xs) refl

pub position-map : {A B : Type 0} (f : A → B) (p : B → Bool) (xs : List A) → position p (map f xs) ≡ position (λ x. p (f x)) xs
position-map f p xs = rw (position_or_len-map f p xs, length-map xs f) refl

none_from : {A : Type 0} (p : A → Bool) (i : ℕ) (xs : List A) → position_from p i xs ≡ None → All (λ x. p x ≡ false) xs
none_from p i [] h = All-nil (λ x. p x ≡ false)
none_from p i (x ∷ xs) h = by (none_from p (i + 1) xs) (p x) refl h
  where
    by : (position_from p (i + 1) xs ≡ None → All (λ y. p y ≡ false) xs) → (b : Bool) → p x ≡ b → (if b then Some i else position_from p (i + 1) xs) ≡ None → All (λ y. p y ≡ false) (x ∷ xs)
    by rest true e k = cc
    by rest false e k = All-cons (λ y. p y ≡ false) x xs e (rest k)

-- where no place is found, no element passes
pub position-None : {A : Type 0} (p : A → Bool) (xs : List A) → position p xs ≡ None → All (λ x. p x ≡ false) xs
position-None p xs h = none_from p 0 xs (sym (position_from-zero p xs) ∙ h)
