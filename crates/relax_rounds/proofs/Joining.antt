-- What is known of two parts, put together, and of all parts as a round.
use Rattle.std.proofs.Common.{◌≡◌, ℕ, ◌/◌, ◌<◌, ◌≤◌, ℤ, ◌+ℤ◌, ◌≤ℤ◌, List, length, arith}
use Rattle.std.proofs.Math.Nat.{zero-div, mul-div_cancel_left}
use Rattle.std.proofs.lemmas.Int.{ints}
use mathlib.Core.Logic.{dite}
use native.Mathlib.Decide.{dec_le}
use Rattle.rule_system.specs.Rules.{rule_at, source_of, target_of}
use Rattle.rule_system.specs.Weights.{rule_weight, time_of}
use Rattle.arrival_words.specs.About.{About}
use Rattle.arrival_words.specs.Known.{Relaxes, NothingSinks}
use Rattle.relax_rounds.specs.Parts.{part_begin, RelaxesParts}
use Rattle.relax_rounds.specs.Rounds.{IsRoundIn}

≤ℤ-trans : (x y z : ℤ) → x ≤ℤ y → y ≤ℤ z → x ≤ℤ z
≤ℤ-trans x y z p q = omega (arith, ints)

pub sinks-refl : (v : List ℤ) → NothingSinks v v
sinks-refl v = record { each = λ e. omega (arith, ints) }

pub sinks-trans : (u v w : List ℤ) → NothingSinks u v → NothingSinks v w → NothingSinks u w
sinks-trans u v w p q = record { each = λ e. ≤ℤ-trans (time_of u e) (time_of v e) (time_of w e) (p.each e) (q.each e) }

-- more is known after
pub relaxes_wider : (a : About) (from to : ℕ) (v w w' : List ℤ) → Relaxes a from to v w → NothingSinks w w' → Relaxes a from to v w'
relaxes_wider a from to v w w' r more = record {
  each = λ n low high. ≤ℤ-trans (time_of v (source_of a.rules n) +ℤ rule_weight a.top a.bottom (rule_at a.rules n)) (time_of w (target_of a.rules n)) (time_of w' (target_of a.rules n))
      (r.each n low high) (more.each (target_of a.rules n));
}

-- two parts, one after the other
pub relaxes_both : (a : About) (from middle to : ℕ) (v w : List ℤ) → Relaxes a from middle v w → Relaxes a middle to v w → Relaxes a from to v w
relaxes_both a from middle to v w p q = record { each = λ n low high. dite (dec_le middle n) (λ h. q.each n h high) (λ h. p.each n low (omega arith)) }

-- more is known after a round
pub round_wider : (a : About) (v w w' : List ℤ) → IsRoundIn a v w → NothingSinks w w' → IsRoundIn a v w'
round_wider a v w w' r more = (
  λ event. ≤ℤ-trans (time_of v event) (time_of w event) (time_of w' event) (r.0 event) (more.each event),
  λ n near. ≤ℤ-trans (time_of v (source_of a.rules n) +ℤ rule_weight a.top a.bottom (rule_at a.rules n)) (time_of w (target_of a.rules n)) (time_of w' (target_of a.rules n))
      (r.1 n near) (more.each (target_of a.rules n)),
)

-- the parts of all workers
pub all_parts : (a : About) (workers : ℕ) (v w : List ℤ) → 0 < workers → RelaxesParts a workers 0 workers v w → NothingSinks v w → IsRoundIn a v w
all_parts a workers v w some r kept = (λ event. kept.each event, λ n near. r.each n (low n) (high n near))
  where
    low : (n : ℕ) → part_begin (length a.rules) workers 0 ≤ n
    low n = let z : 0 / workers ≡ 0 = zero-div workers in omega arith

    high : (n : ℕ) → n < length a.rules → n < part_begin (length a.rules) workers workers
    high n near = rw (mul-div_cancel_left (length a.rules) some) near
