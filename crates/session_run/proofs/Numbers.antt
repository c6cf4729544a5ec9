-- Numbers of sessions, and their scripts.
use Rattle.std.proofs.Common.{◌≡◌, ◌≢◌, ℕ, ◌+◌, ◌<◌, ◌≤◌, ◌==◌, true, false, cond, List, [], ◌∷◌, length, refl, ap, ◌∙◌, arith}
use Rattle.std.proofs.lemmas.Bool.Decides.{nat_tests}
use Rattle.session_machine.specs.Orders.{script_from}

pub same_number : (k : ℕ) → (k == k) ≡ true
same_number k = grind (arith, nat_tests)

pub other_number : (k s : ℕ) → k ≢ s → (k == s) ≡ false
other_number k s h = grind (arith, nat_tests)

script_there : {C : Type 0} (n s : ℕ) (x : List C) (xs : List (List C)) → s ≢ n → script_from n (x ∷ xs) s ≡ script_from (n + 1) xs s
script_there n s x xs h = ap (λ b. cond b x (script_from (n + 1) xs s)) (other_number s n h)

-- a session that there is not has no script
pub none_before : {C : Type 0} (n s : ℕ) (xs : List (List C)) → s < n → script_from n xs s ≡ []
none_before n s [] h = refl
none_before n s (x ∷ xs) h = let ne : s ≢ n = λ e. omega arith in script_there n s x xs ne ∙ none_before (n + 1) s xs (omega arith)

pub none_outside : {C : Type 0} (n s : ℕ) (xs : List (List C)) → n + length xs ≤ s → script_from n xs s ≡ []
none_outside n s [] h = refl
none_outside n s (x ∷ xs) h = let ne : s ≢ n = λ e. omega arith in script_there n s x xs ne ∙ none_outside (n + 1) s xs (omega arith)
