use Rattle.std.proofs.Common.{arith}
use Rattle.std.proofs.lemmas.Nat.Gcd.{IsGcd-from_zero, IsGcd-from_mod}
use Rattle.cyc_num.proofs.divisors.gcd.Goals as goal

pub remainders-preserved : goal.remainders-preserved
remainders-preserved c g h = c.remainders.invariant g (IsGcd-from_mod _ _ g h)

pub returns : goal.returns
returns c = c.remainders.invariant _ (IsGcd-from_zero _ _ (omega arith))
