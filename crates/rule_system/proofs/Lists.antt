-- The list of the rules into an event: it holds these rules, and all of them.
use Rattle.std.proofs.Common.{◌≡◌, ◌≢◌, ℕ, zero, suc, ◌+◌, ◌<◌, ◌≤◌, ◌==◌, Bool, true, false, cond, List, ◌∷◌, length, get_or, filter, refl, sym, ap, subst, arith, ◌⊎◌, inl, inr}
use Rattle.std.specs.List.{range_with_len}
use Rattle.std.proofs.lemmas.Bool.{cases_eq}
use Rattle.std.proofs.lemmas.Bool.Decides.{nat_tests}
use Rattle.rule_system.specs.declared.rules.Rule.{Rule}
use Rattle.rule_system.specs.Rules.{target_of}
use Rattle.rule_system.specs.Bounds.{rules_into}

-- an element of the filtered range
record IsPicked (p : ℕ → Bool) (a n x : ℕ) : Type 0 where
  pub from : a ≤ x
  pub below : x < a + n
  pub passes : p x ≡ true

later : (p : ℕ → Bool) (a n x : ℕ) → IsPicked p (a + 1) n x → IsPicked p a (suc n) x
later p a n x h = let l : a + 1 ≤ x = h.from in let b : x < a + 1 + n = h.below in record { from = omega arith; below = omega arith; passes = h.passes }

-- each element after the first number of the range, with that number before them or not
picked_more : (p : ℕ → Bool) (a n : ℕ) (rest : List ℕ) (b : Bool) → p a ≡ b → ((k : ℕ) → k < length rest → IsPicked p (a + 1) n (get_or rest k 0)) → (k : ℕ) → k < length (cond b (a ∷ rest) rest) → IsPicked p a (suc n) (get_or (cond b (a ∷ rest) rest) k 0)
picked_more p a n rest true e h zero l = record { from = omega arith; below = omega arith; passes = e }
picked_more p a n rest true e h (suc k) l = later p a n (get_or rest k 0) (h k (omega arith))
picked_more p a n rest false e h k l = later p a n (get_or rest k 0) (h k l)

picked : (p : ℕ → Bool) (a n i : ℕ) → i < length (filter p (range_with_len a n)) → IsPicked p a n (get_or (filter p (range_with_len a n)) i 0)
picked p a zero i h = absurd (omega arith)
picked p a (suc n) i h = picked_more p a n (filter p (range_with_len (a + 1) n)) (p a) refl (picked p (a + 1) n) i h

-- where a number stands in a list
record IsListed (xs : List ℕ) (x : ℕ) : Type 0 where
  pub at : ℕ
  pub inside : at < length xs
  pub is : get_or xs at 0 ≡ x

listed_more : (p : ℕ → Bool) (a x : ℕ) (rest : List ℕ) (b : Bool) → p a ≡ b → p x ≡ true → (x ≡ a) ⊎ (x ≢ a) → (x ≢ a → IsListed rest x) → IsListed (cond b (a ∷ rest) rest) x
listed_more p a x rest true e h (inl s) k = record { at = 0; inside = omega arith; is = sym s }
listed_more p a x rest true e h (inr d) k = let r : IsListed rest x = k d in let i : r.at < length rest = r.inside in record { at = suc r.at; inside = omega arith; is = r.is }
listed_more p a x rest false e h (inl s) k = absurd (clash (ap p s))
  where
    clash : p x ≡ p a → ⊥
    clash s = let f : p a ≡ false = e in let t : p x ≡ true = h in cc
listed_more p a x rest false e h (inr d) k = k d

listed : (p : ℕ → Bool) (a n x : ℕ) → a ≤ x → x < a + n → p x ≡ true → IsListed (filter p (range_with_len a n)) x
listed p a zero x l b h = absurd (omega arith)
listed p a (suc n) x l b h = listed_more p a x (filter p (range_with_len (a + 1) n)) (p a) refl h (cases_eq x a) (λ d. listed p (a + 1) n x (omega arith) (omega arith) h)

same : (a b : ℕ) → (a == b) ≡ true → a ≡ b
same a b e = grind (arith, nat_tests)

passing : (a b : ℕ) → a ≡ b → (a == b) ≡ true
passing a b e = grind (arith, nat_tests)

-- each number of the list is one of a rule
pub into_inside : (rs : List Rule) (event i : ℕ) → i < length (rules_into rs event) → get_or (rules_into rs event) i 0 < length rs
into_inside rs event i h =
    let s : IsPicked (λ n. target_of rs n == event) 0 (length rs) (get_or (rules_into rs event) i 0) = picked (λ n. target_of rs n == event) 0 (length rs) i h in
    let b : get_or (rules_into rs event) i 0 < 0 + length rs = s.below in
    omega arith

-- that rule leads to the event
pub into_target : (rs : List Rule) (event i : ℕ) → i < length (rules_into rs event) → target_of rs (get_or (rules_into rs event) i 0) ≡ event
into_target rs event i h =
    let s : IsPicked (λ n. target_of rs n == event) 0 (length rs) (get_or (rules_into rs event) i 0) = picked (λ n. target_of rs n == event) 0 (length rs) i h in
    same (target_of rs (get_or (rules_into rs event) i 0)) event s.passes

-- what holds of each rule of the list holds of each rule into the event
pub all_into : (rs : List Rule) (event : ℕ) (P : ℕ → Type 0) → ((k : ℕ) → k < length (rules_into rs event) → P (get_or (rules_into rs event) k 0)) → (n : ℕ) → n < length rs → target_of rs n ≡ event → P n
all_into rs event P h n inside to =
    let s : IsListed (rules_into rs event) n = listed (λ n. target_of rs n == event) 0 (length rs) n (omega arith) (omega arith) (passing (target_of rs n) event to) in
    subst P s.is (h s.at s.inside)
