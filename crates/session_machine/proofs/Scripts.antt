-- The script of each session.
use Rattle.std.proofs.Common.{◌≡◌, ◌≢◌, ℕ, ◌+◌, ◌<◌, ◌≤◌, cond, List, [], ◌∷◌, length, refl, ap, ◌∙◌, arith}
use Rattle.session_machine.specs.Orders.{script_from}
use Rattle.session_machine.proofs.Puts.{same_number, other_number}

pub script_here : {C : Type 0} (n : ℕ) (x : List C) (xs : List (List C)) → script_from n (x ∷ xs) n ≡ x
script_here n x xs = ap (λ b. cond b x (script_from (n + 1) xs n)) (same_number n)

pub script_there : {C : Type 0} (n s : ℕ) (x : List C) (xs : List (List C)) → s ≢ n → script_from n (x ∷ xs) s ≡ script_from (n + 1) xs s
script_there n s x xs h = ap (λ b. cond b x (script_from (n + 1) xs s)) (other_number s n h)

-- a session that there is not has no script
pub none_before : {C : Type 0} (n s : ℕ) (xs : List (List C)) → s < n → script_from n xs s ≡ []
none_before n s [] h = refl
none_before n s (x ∷ xs) h = let ne : s ≢ n = λ e. omega arith in script_there n s x xs ne ∙ none_before (n + 1) s xs (omega arith)

pub none_outside : {C : Type 0} (n s : ℕ) (xs : List (List C)) → n + length xs ≤ s → script_from n xs s ≡ []
none_outside n s [] h = refl
none_outside n s (x ∷ xs) h = let ne : s ≢ n = λ e. omega arith in script_there n s x xs ne ∙ none_outside (n + 1) s xs (omega arith)
