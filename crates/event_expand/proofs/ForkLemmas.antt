-- Forks made one after the other.
use Rattle.std.proofs.Common.{◌≡◌, ℕ, ◌+◌, List, [], ◌∷◌, ◌++◌, drop, map, Some, ap, sym, ◌∙◌, slice_get, append_assoc}
use Rattle.std.proofs.lemmas.List.{drop_more}
use Rattle.std.proofs.lemmas.Option.{slice_get_within, get_or_from_slice_get}

-- one more item is mapped
pub mapped : {A B : Type 0} (f : A → B) (xs : List A) (at : ℕ) (x : A) (y : B) (old new whole : List B) → slice_get xs at ≡ Some x → y ≡ f x → new ≡ old ++ y ∷ []
    → old ++ map f (drop at xs) ≡ whole → new ++ map f (drop (at + 1) xs) ≡ whole
mapped f xs at x y old new whole is made put so_far =
    rw (put, made) (append_assoc old (f x ∷ []) (map f (drop (at + 1) xs))
    ∙ ap (λ (ys : List _). old ++ map f ys) (sym (drop_more xs at x (slice_get_within xs at x is) ∙ ap (λ (z : _). z ∷ drop (at + 1) xs) (get_or_from_slice_get xs at x x is)))
    ∙ so_far)
