-- A ratio in lowest terms.
use Rattle.std.proofs.Common.{◌≡◌, ℕ, zero, suc, ◌+◌, ◌*◌, ◌/◌, ◌%◌, ◌<◌, ◌≤◌, ◌⊎◌, inl, inr, sym, subst, arith}
use Prim.Native.Nat.{◌∣◌}
use Rattle.std.specs.Int.{IsGcd}
use Rattle.std.proofs.lemmas.Bool.{cases_lt}
use Rattle.std.proofs.lemmas.Nat.{div-add-mod'}
use Rattle.std.proofs.lemmas.Nat.Gcd.{IsGcd-from_zero, IsGcd-from_mod, mod-eq-zero_of_dvd}
use Rattle.std.proofs.Math.Nat.{one-dvd, mul-dvd-mul_left, dvd_of_mul-dvd-mul_left, mod-lt}

-- by Euclid's steps
gcd_of : (fuel a b : ℕ) → b ≤ fuel → (g : ℕ) × IsGcd a b g
gcd_of zero a b h = (a, IsGcd-from_zero a b (omega arith))
gcd_of (suc fuel) a b h = go (λ (k : 0 < b). gcd_of fuel b (a % b) (let l : a % b < b = mod-lt a k in omega arith)) (cases_lt 0 b)
  where
    go : (0 < b → (g : ℕ) × IsGcd b (a % b) g) → (0 < b) ⊎ (b ≤ 0) → (g : ℕ) × IsGcd a b g
    go rest (inl k) = let r : (g : ℕ) × IsGcd b (a % b) g = rest k in (r.0, IsGcd-from_mod a b r.0 r.1)
    go rest (inr k) = (a, IsGcd-from_zero a b (omega arith))

-- a ratio and its lowest terms
pub record LowestTerms (top bottom : ℕ) : Type 0 where
  pub factor : ℕ
  pub top_lowest : ℕ
  pub bottom_lowest : ℕ
  pub some : 1 ≤ factor
  pub positive : 1 ≤ bottom_lowest
  pub is_top : top ≡ factor * top_lowest
  pub is_bottom : bottom ≡ factor * bottom_lowest
  pub lowest : IsGcd top_lowest bottom_lowest 1

divided : (g n : ℕ) → g ∣ n → n ≡ g * (n / g)
divided g n h =
    let e : n / g * g + n % g ≡ n = div-add-mod' n g in
    let z : n % g ≡ 0 = mod-eq-zero_of_dvd g h in
    omega arith

above_zero : (g n q : ℕ) → 1 ≤ n → n ≡ g * q → 1 ≤ g
above_zero zero n q h e = let z : zero * q ≡ 0 = omega arith in absurd (omega arith)
above_zero (suc g) n q h e = omega arith

pub lowest_terms : (top bottom : ℕ) → 1 ≤ bottom → LowestTerms top bottom
lowest_terms top bottom h = go (gcd_of bottom top bottom (omega arith))
  where
    go : (g : ℕ) × IsGcd top bottom g → LowestTerms top bottom
    go r = record {
      factor = g;
      top_lowest = a;
      bottom_lowest = b;
      some = some;
      positive = above_zero b bottom g h (let e : bottom ≡ g * b = is_b in omega arith);
      is_top = is_a;
      is_bottom = is_b;
      lowest = (one-dvd a, one-dvd b, common);
    }
      where
        g : ℕ
        g = r.0

        a : ℕ
        a = top / r.0

        b : ℕ
        b = bottom / r.0

        is_a : top ≡ r.0 * (top / r.0)
        is_a = divided r.0 top r.1.0

        is_b : bottom ≡ r.0 * (bottom / r.0)
        is_b = divided r.0 bottom r.1.1

        some : 1 ≤ r.0
        some = above_zero r.0 bottom (bottom / r.0) h is_b

        common : (d : ℕ) → d ∣ top / r.0 → d ∣ bottom / r.0 → d ∣ 1
        common d p q =
            let both : r.0 * d ∣ r.0 =
            r.1.2 (r.0 * d)
            (subst (λ (n : ℕ). r.0 * d ∣ n) (sym is_a) (mul-dvd-mul_left d r.0 p))
            (subst (λ (n : ℕ). r.0 * d ∣ n) (sym is_b) (mul-dvd-mul_left d r.0 q))
            in
            dvd_of_mul-dvd-mul_left {k = r.0} d some (subst (λ (n : ℕ). r.0 * d ∣ n) (omega arith) both)
