-- Lists that are made for each of several roots, side by side.
use Rattle.std.proofs.Common.{◌≡◌, ℕ, List, [], ◌∷◌, Result, Ok, Err, map, subst, IfOk, MatchResult, Contains, Vec}
use Rattle.std.specs.List.{AllZip}
use Rattle.std.specs.declared.alloc.AllocError.{AllocError}
use Rattle.std.specs.declared.alloc.Global.{Global}

module _ {X Y : Type 0} (R : X → Y → Type 0) where
  -- what is made of each is right where all were made
  all_made : (xs : List X) (ys : List Y) → AllZip (λ x (y : Result Y AllocError). IfOk y (R x)) xs (map Ok ys) → AllZip R xs ys
  all_made [] [] h = h
  all_made [] (y ∷ ys) h = h
  all_made (x ∷ xs) [] h = h
  all_made (x ∷ xs) (y ∷ ys) h = (h.0, all_made xs ys h.1)

  -- what is collected of them
  pub collected : (xs : List X) (rs : List (Result Y AllocError)) (made : Result (Vec Y Global) AllocError) → AllZip (λ x (y : Result Y AllocError). IfOk y (R x)) xs rs
      → MatchResult made (λ v. (ys : List Y) × (rs ≡ map Ok ys) × (v.items ≡ ys)) (λ e. Contains rs (Err e))
      → IfOk made (λ v. AllZip R xs v.items)
  collected xs rs (Err e) each h = tt
  collected xs rs (Ok v) each h = rw h.2 (all_made xs h.0 (subst (AllZip (λ x (y : Result Y AllocError). IfOk y (R x)) xs) h.1 each))
