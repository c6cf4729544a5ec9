-- What the lowest terms of a cycle's sums say of the sums.
use Rattle.std.proofs.Common.{◌≡◌, ℕ, ◌*◌, ◌≤◌, List, ap, arith}
use Rattle.std.proofs.Math.Nat.{mul-le-mul_left, le_of_mul-le-mul_left}
use Rattle.rule_system.specs.declared.rules.Rule.{Rule}
use Rattle.rule_system.specs.Rules.{delay_sum, offset_sum}
use Rattle.rule_system.specs.Weights.{HasNoGain}

-- no cycle gains at the lowest terms where none does at the sums
pub no_gain_lowest : (top bottom delay offset : ℕ) (rs : List Rule) → 1 ≤ offset → top * offset ≡ delay * bottom → HasNoGain delay offset rs → HasNoGain top bottom rs
no_gain_lowest top bottom delay offset rs o e h cycle c = scale (delay_sum rs cycle) (offset_sum rs cycle) (h cycle c)
  where
    scale : (d w : ℕ) → offset * d ≤ delay * w → bottom * d ≤ top * w
    scale d w k =
        let x : bottom * (offset * d) ≤ bottom * (delay * w) = mul-le-mul_left bottom k in
        let y : w * (top * offset) ≡ w * (delay * bottom) = ap (λ (n : ℕ). w * n) e in
        le_of_mul-le-mul_left {k = offset} (omega arith) o
