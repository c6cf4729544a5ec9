use Rattle.std.proofs.Math.Nat.{div-le_self}
use Rattle.cyc_num.proofs.Lowest.{divisor_positive, divided, same_ratio}
use Rattle.cyc_num.proofs.ratios.Ratio.of.Goals as goal

pub nonzero_div-result : goal.nonzero_div-result
nonzero_div-result c = divisor_positive _ _ _ c.requires c.gcd-divisor.ensures

pub nonzero_div-result-2 : goal.nonzero_div-result-2
nonzero_div-result-2 c = divisor_positive _ _ _ c.requires c.gcd-divisor.ensures

pub invariant_of-result : goal.invariant_of-result
invariant_of-result c = divided _ _ _ c.requires c.gcd-divisor.ensures

pub returns-clause-equal : goal.returns-clause-equal
returns-clause-equal c = same_ratio _ _ _ c.gcd-divisor.ensures

pub returns-clause-lowest : goal.returns-clause-lowest
returns-clause-lowest c = divided _ _ _ c.requires c.gcd-divisor.ensures

pub returns-clause-top : goal.returns-clause-top
returns-clause-top c = div-le_self _ _

pub returns-clause-bottom : goal.returns-clause-bottom
returns-clause-bottom c = div-le_self _ _
