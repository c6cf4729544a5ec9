-- Ratios compared: how far different ones lie apart, and that lowest terms are unique.
use Rattle.std.proofs.Common.{◌≡◌, ℕ, zero, suc, ◌+◌, ◌-◌, ◌*◌, ◌/◌, ◌%◌, ◌<◌, ◌≤◌, ◌⊎◌, inl, inr, sym, ap, subst, ◌∙◌, arith, lit<}
use Rattle.std.specs.Int.{IsGcd}
use Rattle.std.proofs.lemmas.Bool.{cases_lt}
use Rattle.rule_system.specs.Weights.{rank}
use Rattle.std.proofs.lemmas.Nat.{mul-le, div-add-mod'}
use Rattle.std.proofs.lemmas.Nat.Gcd.{le_of_dvd, dvd_of_mod-eq-zero, dvd_refl}
use Prim.Native.Nat.{◌∣◌}
use Rattle.std.proofs.Math.Nat.{one-dvd, mul-le-mul_left, mul-le-mul_right, mul-lt-mul_of_pos_left, le_of_mul-le-mul_left, lt_of_mul-lt-mul_left, dvd-add, dvd-mul_left_of_dvd, mod-lt, le-div_iff_mul-le}

pub apart : (top bottom top' bottom' bound : ℕ) → bottom ≤ bound → bottom' ≤ bound → top * bottom' < top' * bottom → bottom * bottom' + bound * bound * (top * bottom') ≤ bound * bound * (top' * bottom)
apart top bottom top' bottom' bound h k e =
    let small : bottom * bottom' ≤ bound * bound = mul-le bottom bottom' bound bound h k in
    let next : top * bottom' + 1 ≤ top' * bottom = omega arith in
    let grown : bound * bound * (top * bottom' + 1) ≤ bound * bound * (top' * bottom) = mul-le-mul_left (bound * bound) next in
    omega arith

-- a cycle whose ratio is greater than top/bottom gains
pub greater_gains : (top bottom top' bottom' delay offset : ℕ) → 1 ≤ offset → 1 ≤ bottom' → bottom' * delay ≡ top' * offset → top * bottom' < top' * bottom → top * offset < bottom * delay
greater_gains top bottom top' bottom' delay offset o b e h =
    let scaled : offset * (top * bottom') < offset * (top' * bottom) = mul-lt-mul_of_pos_left h o in
    let same : bottom * (bottom' * delay) ≡ bottom * (top' * offset) = ap (λ (n : ℕ). bottom * n) e in
    lt_of_mul-lt-mul_left bottom' (omega arith)

-- a cycle of ratio top/bottom that does not gain at top'/bottom' has no greater ratio
pub attained_le : (top bottom top' bottom' delay offset : ℕ) → 1 ≤ offset → bottom * delay ≡ top * offset → bottom' * delay ≤ top' * offset → top * bottom' ≤ top' * bottom
attained_le top bottom top' bottom' delay offset o e h =
    let scaled : bottom * (bottom' * delay) ≤ bottom * (top' * offset) = mul-le-mul_left bottom h in
    let same : bottom' * (bottom * delay) ≡ bottom' * (top * offset) = ap (λ (n : ℕ). bottom' * n) e in
    le_of_mul-le-mul_left {k = offset} (omega arith) o

remainder_gcd : (a b : ℕ) → IsGcd a b 1 → IsGcd b (a % b) 1
remainder_gcd a b h = (h.1, one-dvd (a % b), λ d p q. h.2 d (whole d p q) p)
  where
    whole : (d : ℕ) → d ∣ b → d ∣ a % b → d ∣ a
    whole d p q = subst (λ (n : ℕ). d ∣ n) (div-add-mod' a b) (dvd-add d (dvd-mul_left_of_dvd d p (a / b)) q)

same_remainders : (a b a' b' q r r' : ℕ) → q * b + r ≡ a → q * b' + r' ≡ a' → a * b' ≡ a' * b → r * b' ≡ r' * b
same_remainders a b a' b' q r r' h k e =
    let x : (q * b + r) * b' ≡ a * b' = ap (λ (n : ℕ). n * b') h in
    let y : (q * b' + r') * b ≡ a' * b = ap (λ (n : ℕ). n * b) k in
    omega arith

quotient_fits : (a b a' b' q r : ℕ) → 1 ≤ b → q * b + r ≡ a → a * b' ≡ a' * b → q * b' ≤ a'
quotient_fits a b a' b' q r p h e =
    let x : (q * b + r) * b' ≡ a * b' = ap (λ (n : ℕ). n * b') h in
    le_of_mul-le-mul_left {k = b} (omega arith) p

above_zero : (r b r' b' : ℕ) → 0 < r → 1 ≤ b' → r * b' ≡ r' * b → 1 ≤ r'
above_zero r b zero b' p q e = let x : 1 * 1 ≤ r * b' = mul-le 1 1 r b' p q in absurd (omega arith)
above_zero r b (suc r') b' p q e = omega arith

bottoms_grow : (b b' r r' : ℕ) → 1 ≤ r' → r ≤ r' → r * b' ≡ r' * b → b ≤ b'
bottoms_grow b b' r r' p h e =
    let x : r * b' ≤ r' * b' = mul-le-mul_right b' h in
    le_of_mul-le-mul_left {k = r'} (omega arith) p

smaller : (a b a' b' r' : ℕ) → IsGcd a b 1 → 1 ≤ b → 1 ≤ b' → a * b' ≡ a' * b → (a / b) * b' + r' ≡ a' → 0 < a % b → (1 ≤ r' → b * r' ≡ b' * (a % b) → a % b ≤ r') → b ≤ b'
smaller a b a' b' r' g p p' e h k rest =
    let s : a % b * b' ≡ r' * b = same_remainders a b a' b' (a / b) (a % b) r' (div-add-mod' a b) h e in
    let one : 1 ≤ r' = above_zero (a % b) b r' b' k p' s in
    bottoms_grow b b' (a % b) r' one (rest one (omega arith)) s

-- lowest terms have the least bottom: by Euclid's steps on both ratios at once
pub lowest_least : (fuel a b a' b' : ℕ) → b ≤ fuel → IsGcd a b 1 → 1 ≤ b → 1 ≤ b' → a * b' ≡ a' * b → b ≤ b'
lowest_least zero a b a' b' f g p p' e = absurd (omega arith)
lowest_least (suc fuel) a b a' b' f g p p' e =
    let low : a % b < b = mod-lt a p in
    go (λ h one s. lowest_least fuel b (a % b) b' (a' - (a / b) * b') (omega arith) (remainder_gcd a b g) h one s) (cases_lt 0 (a % b))
  where
    go : (0 < a % b → 1 ≤ a' - (a / b) * b' → b * (a' - (a / b) * b') ≡ b' * (a % b) → a % b ≤ a' - (a / b) * b') → (0 < a % b) ⊎ (a % b ≤ 0) → b ≤ b'
    go rest (inl h) =
        let fits : (a / b) * b' ≤ a' = quotient_fits a b a' b' (a / b) (a % b) p (div-add-mod' a b) e in
        smaller a b a' b' (a' - (a / b) * b') g p p' e (omega arith) h (rest h)
    go rest (inr h) =
        let one : b ≤ 1 = le_of_dvd (lit< tt) (g.2 b (dvd_of_mod-eq-zero b (omega arith)) (dvd_refl b)) in
        omega arith

-- two ratios in lowest terms of one value are the same
pub same_ratio : (a b a' b' : ℕ) → IsGcd a b 1 → IsGcd a' b' 1 → 1 ≤ b → 1 ≤ b' → a * b' ≡ a' * b → (a ≡ a') × (b ≡ b')
same_ratio a b a' b' g g' p p' e =
    let low : b ≤ b' = lowest_least b a b a' b' (omega arith) g p p' e in
    let high : b' ≤ b = lowest_least b' a' b' a b (omega arith) g' p' p (sym e) in
    let same : b ≡ b' = omega arith in
    (same_tops a a' b p (e' same), same)
  where
    same_tops : (a a' b : ℕ) → 1 ≤ b → a * b ≡ a' * b → a ≡ a'
    same_tops a a' b p e =
        let low : a ≤ a' = le_of_mul-le-mul_left {k = b} (omega arith) p in
        let high : a' ≤ a = le_of_mul-le-mul_left {k = b} (omega arith) p in
        omega arith

    e' : b ≡ b' → a * b ≡ a' * b
    e' s = ap (λ (n : ℕ). a * n) s ∙ e

-- a greater ratio has a greater rank, so ranks bound how often a ratio can be raised
pub rank_rises : (top bottom top' bottom' bound : ℕ) → 1 ≤ bottom → 1 ≤ bottom' → bottom ≤ bound → bottom' ≤ bound → top * bottom' < top' * bottom → rank bound top bottom < rank bound top' bottom'
rank_rises top bottom top' bottom' bound p p' h k e =
    let far : bottom * bottom' + bound * bound * (top * bottom') ≤ bound * bound * (top' * bottom) = apart top bottom top' bottom' bound h k e in
    let low : rank bound top bottom * bottom + bound * bound * top % bottom ≡ bound * bound * top = div-add-mod' (bound * bound * top) bottom in
    let under : rank bound top bottom * bottom * bottom' ≤ bound * bound * top * bottom' = mul-le-mul_right bottom' (omega arith) in
    let fits : (rank bound top bottom + 1) * bottom' ≤ bound * bound * top' = le_of_mul-le-mul_left {k = bottom} (omega arith) p in
    let there : rank bound top bottom + 1 ≤ rank bound top' bottom' = (le-div_iff_mul-le p').1 fits in
    omega arith
