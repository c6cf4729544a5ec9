-- No walk from the root weighs more than the limit of numbers.
use Rattle.std.proofs.Common.{◌≡◌, ℕ, ◌+◌, ◌-◌, ◌*◌, ◌≤◌, ℤ, pos, ◌+ℤ◌, ◌-ℤ◌, ◌≤ℤ◌, arith, refl, subst}
use Rattle.std.proofs.lemmas.Int.{ints}
use Rattle.std.proofs.lemmas.Nat.{mul-le}
use Rattle.rule_system.specs.Rules.{delay_sum, offset_sum}
use Rattle.rule_system.specs.Weights.{weight, ShortWalkAtLeast}
use Rattle.rule_system.proofs.Sums.{walk_sums, ends_below}
use Rattle.rule_system.proofs.Erase.{short_walk}
use Rattle.cyc_num.specs.Within.{time_limit}
use Rattle.arrival_words.specs.About.{About, IsSound, IsReached}

most : (long short : ℤ) (up down : ℕ) → long ≤ℤ short → short ≡ pos up -ℤ pos down → up ≤ 17000000000000000 → long ≤ℤ pos 17000000000000000
most long short up down h e k = omega (arith, ints)

pub light : (a : About) → IsSound a → (event : ℕ) (time : ℤ) → IsReached a event time → time ≤ℤ pos time_limit
light a sound event time r =
    let ends = ends_below a.events a.rules sound.system in
    let s : ShortWalkAtLeast a.top a.bottom a.events a.rules a.root r.walk event = short_walk a.top a.bottom a.events a.rules ends sound.no_gain a.root r.walk event sound.root r.leads in
    let few = s.is_short in
    let events = sound.system.0 in
    let sums = walk_sums a.events a.rules sound.system a.root s.short event s.is_walk in
    let sum : delay_sum a.rules s.short ≤ 32767000000 = let d = sums.0 in omega arith in
    let up : a.bottom * delay_sum a.rules s.short ≤ 491520 * 32767000000 = mul-le a.bottom (delay_sum a.rules s.short) 491520 32767000000 sound.period.1 sum in
    subst (λ (y : ℤ). y ≤ℤ pos 17000000000000000) r.weighs
    (most (weight a.top a.bottom a.rules r.walk) (weight a.top a.bottom a.rules s.short) (a.bottom * delay_sum a.rules s.short) (a.top * offset_sum a.rules s.short) s.at_least refl (omega arith))

-- what an offer's word stands for
pub offer_is : (found up down : ℕ) → pos 0 ≤ℤ ((pos found -ℤ pos 4611686018427387904) +ℤ pos 17000000000000000) → down ≤ 491520000000
    → (pos (found + up - down) -ℤ pos 4611686018427387904) ≡ (pos found -ℤ pos 4611686018427387904) +ℤ (pos up -ℤ pos down)
offer_is found up down low few =
    let base : 4611686018427387904 ≤ found + 17000000000000000 = omega (arith, ints) in
    let room : down ≤ found + up = omega arith in
    let same : found + up - down + down ≡ found + up = omega arith in
    omega (arith, ints)
