-- The lists of the rules out of an event and into one: what they hold, and in which order.
use Rattle.std.proofs.Common.{◌≡◌, ◌≢◌, ℕ, zero, suc, ◌+◌, ◌<◌, ◌≤◌, Bool, true, false, cond, List, ◌∷◌, All, length, get_or, filter, refl, sym, ap, subst, arith, ◌==◌, ◌⊎◌, inl, inr}
use Rattle.std.specs.List.{range_with_len}
use Rattle.std.proofs.lemmas.Bool.{cases_eq, cases_lt}
use Rattle.std.proofs.lemmas.Bool.Decides.{nat_tests}
use Rattle.std.proofs.lemmas.List.Elements.{All-from_get_or}
use Rattle.rule_system.specs.declared.rules.Rule.{Rule}
use Rattle.rule_system.specs.Rules.{source_of, target_of}
use Rattle.rule_system.specs.Bounds.{rules_into, rules_out_of}

-- an element of the filtered range
pub record IsPicked (p : ℕ → Bool) (a n x : ℕ) : Type 0 where
  pub from : a ≤ x
  pub below : x < a + n
  pub passes : p x ≡ true

later : (p : ℕ → Bool) (a n x : ℕ) → IsPicked p (a + 1) n x → IsPicked p a (suc n) x
later p a n x h = let l : a + 1 ≤ x = h.from in let b : x < a + 1 + n = h.below in record { from = omega arith; below = omega arith; passes = h.passes }

-- each element after the first number of the range, with that number before them or not
picked_more : (p : ℕ → Bool) (a n : ℕ) (rest : List ℕ) (b : Bool) → p a ≡ b → ((k : ℕ) → k < length rest → IsPicked p (a + 1) n (get_or rest k 0)) → (k : ℕ) → k < length (cond b (a ∷ rest) rest) → IsPicked p a (suc n) (get_or (cond b (a ∷ rest) rest) k 0)
picked_more p a n rest true e h zero l = record { from = omega arith; below = omega arith; passes = e }
picked_more p a n rest true e h (suc k) l = later p a n (get_or rest k 0) (h k (omega arith))
picked_more p a n rest false e h k l = later p a n (get_or rest k 0) (h k l)

picked : (p : ℕ → Bool) (a n i : ℕ) → i < length (filter p (range_with_len a n)) → IsPicked p a n (get_or (filter p (range_with_len a n)) i 0)
picked p a zero i h = absurd (omega arith)
picked p a (suc n) i h = picked_more p a n (filter p (range_with_len (a + 1) n)) (p a) refl (picked p (a + 1) n) i h

-- where a number stands in a list
pub record IsPlaced (xs : List ℕ) (x : ℕ) : Type 0 where
  pub at : ℕ
  pub inside : at < length xs
  pub is : get_or xs at 0 ≡ x

placed_more : (p : ℕ → Bool) (a x : ℕ) (rest : List ℕ) (b : Bool) → p a ≡ b → p x ≡ true → (x ≡ a) ⊎ (x ≢ a) → (x ≢ a → IsPlaced rest x) → IsPlaced (cond b (a ∷ rest) rest) x
placed_more p a x rest true e h (inl s) k = record { at = 0; inside = omega arith; is = sym s }
placed_more p a x rest true e h (inr d) k = let r : IsPlaced rest x = k d in let i : r.at < length rest = r.inside in record { at = suc r.at; inside = omega arith; is = r.is }
placed_more p a x rest false e h (inl s) k = absurd (clash (ap p s))
  where
    clash : p x ≡ p a → ⊥
    clash s = let f : p a ≡ false = e in let t : p x ≡ true = h in cc
placed_more p a x rest false e h (inr d) k = k d

placed : (p : ℕ → Bool) (a n x : ℕ) → a ≤ x → x < a + n → p x ≡ true → IsPlaced (filter p (range_with_len a n)) x
placed p a zero x l b h = absurd (omega arith)
placed p a (suc n) x l b h = placed_more p a x (filter p (range_with_len (a + 1) n)) (p a) refl h (cases_eq x a) (λ d. placed p (a + 1) n x (omega arith) (omega arith) h)

rising_more : (p : ℕ → Bool) (a n : ℕ) (rest : List ℕ) (b : Bool) → ((k : ℕ) → k < length rest → IsPicked p (a + 1) n (get_or rest k 0)) → ((i k : ℕ) → i ≤ k → k < length rest → get_or rest i 0 ≤ get_or rest k 0) → (i k : ℕ) → i ≤ k → k < length (cond b (a ∷ rest) rest) → get_or (cond b (a ∷ rest) rest) i 0 ≤ get_or (cond b (a ∷ rest) rest) k 0
rising_more p a n rest true h r zero zero l k = omega arith
rising_more p a n rest true h r zero (suc j) l k =
    let s : IsPicked p (a + 1) n (get_or rest j 0) = h j (omega arith) in
    let f : a + 1 ≤ get_or rest j 0 = s.from in
    omega arith
rising_more p a n rest true h r (suc i) zero l k = absurd (omega arith)
rising_more p a n rest true h r (suc i) (suc j) l k = r i j (omega arith) (omega arith)
rising_more p a n rest false h r i j l k = r i j l k

-- the earlier is the smaller
rising : (p : ℕ → Bool) (a n i k : ℕ) → i ≤ k → k < length (filter p (range_with_len a n)) → get_or (filter p (range_with_len a n)) i 0 ≤ get_or (filter p (range_with_len a n)) k 0
rising p a zero i k l h = absurd (omega arith)
rising p a (suc n) i k l h = rising_more p a n (filter p (range_with_len (a + 1) n)) (p a) (picked p (a + 1) n) (rising p (a + 1) n) i k l h

-- a rule out of an event, and one into it, in its list
pub record IsRuleOut (rs : List Rule) (event n : ℕ) : Type 0 where
  pub inside : n < length rs
  pub from : source_of rs n ≡ event

pub record IsRuleInto (rs : List Rule) (event n : ℕ) : Type 0 where
  pub inside : n < length rs
  pub to : target_of rs n ≡ event

pub rule_out : (rs : List Rule) (event i : ℕ) → i < length (rules_out_of rs event) → IsRuleOut rs event (get_or (rules_out_of rs event) i 0)
rule_out rs event i h =
    let s : IsPicked (λ n. source_of rs n == event) 0 (length rs) (get_or (rules_out_of rs event) i 0) = picked (λ n. source_of rs n == event) 0 (length rs) i h in
    let b : get_or (rules_out_of rs event) i 0 < 0 + length rs = s.below in
    record { inside = omega arith; from = same (source_of rs (get_or (rules_out_of rs event) i 0)) event s.passes }
  where
    same : (a b : ℕ) → (a == b) ≡ true → a ≡ b
    same a b e = grind (arith, nat_tests)

pub rule_into : (rs : List Rule) (event i : ℕ) → i < length (rules_into rs event) → IsRuleInto rs event (get_or (rules_into rs event) i 0)
rule_into rs event i h =
    let s : IsPicked (λ n. target_of rs n == event) 0 (length rs) (get_or (rules_into rs event) i 0) = picked (λ n. target_of rs n == event) 0 (length rs) i h in
    let b : get_or (rules_into rs event) i 0 < 0 + length rs = s.below in
    record { inside = omega arith; to = same (target_of rs (get_or (rules_into rs event) i 0)) event s.passes }
  where
    same : (a b : ℕ) → (a == b) ≡ true → a ≡ b
    same a b e = grind (arith, nat_tests)

pub all_out : (rs : List Rule) (event : ℕ) → All (λ n. n < length rs) (rules_out_of rs event)
all_out rs event = All-from_get_or (λ (n : ℕ). n < length rs) (rules_out_of rs event) 0 (λ i h. (rule_out rs event i h).inside)

pub all_into : (rs : List Rule) (event : ℕ) → All (λ n. n < length rs) (rules_into rs event)
all_into rs event = All-from_get_or (λ (n : ℕ). n < length rs) (rules_into rs event) 0 (λ i h. (rule_into rs event i h).inside)

passing : (a b : ℕ) → a ≡ b → (a == b) ≡ true
passing a b e = grind (arith, nat_tests)

out_placed : (rs : List Rule) (event n : ℕ) → n < length rs → source_of rs n ≡ event → IsPlaced (rules_out_of rs event) n
out_placed rs event n inside from = placed (λ n. source_of rs n == event) 0 (length rs) n (omega arith) (omega arith) (passing (source_of rs n) event from)

-- what holds of no rule of the list holds of no rule out of the event
pub none_out : (rs : List Rule) (event : ℕ) (P : ℕ → Type 0) → ((k : ℕ) → k < length (rules_out_of rs event) → P (get_or (rules_out_of rs event) k 0) → ⊥) → (n : ℕ) → n < length rs → source_of rs n ≡ event → P n → ⊥
none_out rs event P h n inside from k =
    let s : IsPlaced (rules_out_of rs event) n = out_placed rs event n inside from in
    h s.at s.inside (subst P (sym s.is) k)

-- the first of the list of which it holds is the least
pub first_out : (rs : List Rule) (event i : ℕ) (P : ℕ → Type 0) → i < length (rules_out_of rs event) → ((k : ℕ) → k < i → P (get_or (rules_out_of rs event) k 0) → ⊥) → (n : ℕ) → n < length rs → source_of rs n ≡ event → P n → get_or (rules_out_of rs event) i 0 ≤ n
first_out rs event i P l h n inside from k = go (out_placed rs event n inside from)
  where
    go : IsPlaced (rules_out_of rs event) n → get_or (rules_out_of rs event) i 0 ≤ n
    go s = part (cases_lt s.at i)
      where
        part : (s.at < i) ⊎ (i ≤ s.at) → get_or (rules_out_of rs event) i 0 ≤ n
        part (inl low) = absurd (h s.at low (subst P (sym s.is) k))
        part (inr high) =
            let r : get_or (rules_out_of rs event) i 0 ≤ get_or (rules_out_of rs event) s.at 0 = rising (λ n. source_of rs n == event) 0 (length rs) i s.at high s.inside in
            let e : get_or (rules_out_of rs event) s.at 0 ≡ n = s.is in
            omega arith
