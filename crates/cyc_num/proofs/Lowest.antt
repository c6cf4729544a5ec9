-- Two numbers over their greatest common divisor.
use Rattle.std.proofs.Common.{◌≡◌, ℕ, zero, suc, ◌*◌, ◌/◌, ◌<◌, ◌≤◌, subst, arith}
use Prim.Native.Nat.{◌∣◌}
use Rattle.std.specs.Int.{IsGcd}
use Rattle.std.proofs.Math.Nat.{div-mul_cancel, mul-dvd-mul_right, dvd_of_mul-dvd-mul_right, one-dvd, eq-zero_of_zero-dvd}
use Rattle.cyc_num.specs.Ratio.{IsLowest}

pub divisor_positive : (a b g : ℕ) → 0 < b → IsGcd a b g → 0 < g
divisor_positive a b zero h k = let e : b ≡ 0 = eq-zero_of_zero-dvd k.1 in omega arith
divisor_positive a b (suc g) h k = omega arith

-- both divided by their greatest common divisor have none but 1
pub divided : (a b g : ℕ) → 0 < b → IsGcd a b g → IsLowest (a / g) (b / g)
divided a b g h k = record { positive = at_least; lowest = (one-dvd (a / g), one-dvd (b / g), only) }
  where
    some : 0 < g
    some = divisor_positive a b g h k

    whole_top : a / g * g ≡ a
    whole_top = div-mul_cancel g k.0

    whole_bottom : b / g * g ≡ b
    whole_bottom = div-mul_cancel g k.1

    at_least : 1 ≤ b / g
    at_least = positive (b / g) whole_bottom
      where
        positive : (q : ℕ) → q * g ≡ b → 1 ≤ q
        positive zero e = absurd (omega arith)
        positive (suc q) e = omega arith

    one_time : g ≡ 1 * g
    one_time = omega arith

    only : (d : ℕ) → d ∣ a / g → d ∣ b / g → d ∣ 1
    only d p q =
        let t : d * g ∣ a = subst (λ (n : ℕ). d * g ∣ n) whole_top (mul-dvd-mul_right d p g) in
        let u : d * g ∣ b = subst (λ (n : ℕ). d * g ∣ n) whole_bottom (mul-dvd-mul_right d q g) in
        let v : d * g ∣ 1 * g = subst (λ (n : ℕ). d * g ∣ n) one_time (k.2 (d * g) t u) in
        dvd_of_mul-dvd-mul_right d some v

-- and the same ratio
pub same_ratio : (a b g : ℕ) → IsGcd a b g → a / g * b ≡ a * (b / g)
same_ratio a b g k =
    let x : a / g * g ≡ a = div-mul_cancel g k.0 in
    let y : b / g * g ≡ b = div-mul_cancel g k.1 in
    same (a / g) (b / g) x y
  where
    same : (p q : ℕ) → p * g ≡ a → q * g ≡ b → p * b ≡ a * q
    same p q x y = rw (← x, ← y) (omega arith)
