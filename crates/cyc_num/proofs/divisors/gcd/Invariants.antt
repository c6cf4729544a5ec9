use Rattle.std.proofs.Common.{ℕ}
use Rattle.std.specs.Int.{IsGcd}
use Rattle.cyc_num.proofs.divisors.gcd.Given as goal

abbrev pub invariant-remainders : goal.invariant-remainders
invariant-remainders l = (g : ℕ) → IsGcd l.greater l.lesser g → IsGcd l.fn.a l.fn.b g

abbrev pub decreases-remainders : goal.decreases-remainders
decreases-remainders l = l.lesser
