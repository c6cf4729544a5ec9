-- Facts decided by decisions of their parts.
use Rattle.std.proofs.Common.{◌≡◌, ℕ, zero, suc, Bool, true, false, List, [], ◌∷◌, All, Option, Some, None, IfSome, refl, ap, arith}
use Rattle.std.specs.List.{IsDistinct, AllByRecursion}
use native.Mathlib.Decide.{ℕ_discrete}

-- where B needs A: without A there is no B, and with it B is decided by the rest
pub needing : {A B : Type 0} → Dec A → (B → A) → (A → Dec B) → Dec B
needing (yes a) part rest = rest a
needing (no h) part rest = no (λ b. h (part b))

pub decide_both : {A B : Type 0} → Dec A → Dec B → Dec (A × B)
decide_both a b = needing a (λ both. both.0) (λ x. needing b (λ both. both.1) (λ y. yes (x, y)))

pub decide_bool : (a b : Bool) → Dec (a ≡ b)
decide_bool true true = yes refl
decide_bool true false = no (λ e. cc)
decide_bool false true = no (λ e. cc)
decide_bool false false = yes refl

pub decide_place : (o : Option ℕ) (k : ℕ) → Dec (o ≡ Some k)
decide_place None k = no (λ e. cc)
decide_place (Some j) k = needing (ℕ_discrete j k) (λ e. cc) (λ e. yes (ap Some e))

pub decide_some : {A : Type 0} (P : A → Type 0) → ((x : A) → Dec (P x)) → (o : Option A) → Dec (IfSome o P)
decide_some P each None = yes tt
decide_some P each (Some x) = each x

pub decide_all : {A : Type 0} (P : A → Type 0) → ((x : A) → Dec (P x)) → (xs : List A) → Dec (All P xs)
decide_all P each [] = yes (λ k d low. absurd (omega arith))
decide_all P each (x ∷ xs) =
    needing (each x) (λ all. all 0 x (omega arith)) λ first.
    needing (decide_all P each xs) (λ all k d low. all (suc k) d (omega arith)) λ rest.
    yes (elim [ zero ↦ λ d low. first | suc k ↦ λ d low. rest k d (omega arith) ])

decide_each : {A : Type 0} (P : A → Type 0) → ((x : A) → Dec (P x)) → (xs : List A) → Dec (AllByRecursion P xs)
decide_each P each [] = yes tt
decide_each P each (x ∷ xs) = decide_both (each x) (decide_each P each xs)

pub decide_distinct : {A : Type 0} (same : A → A → Bool) (xs : List A) → Dec (IsDistinct same xs)
unfolding IsDistinct
decide_distinct same [] = yes tt
decide_distinct same (x ∷ xs) = decide_both (decide_each (λ y. same x y ≡ false) (λ y. decide_bool (same x y) false) xs) (decide_distinct same xs)
