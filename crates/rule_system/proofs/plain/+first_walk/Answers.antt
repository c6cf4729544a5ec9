use Rattle.std.proofs.Common.{arith}
use Rattle.rule_system.proofs.PlainWalks.{none_starts}
use Rattle.rule_system.proofs.plain.+first_walk.Goals as goal

pub returns-clause-none : goal.returns-clause-none
returns-clause-none t c = none_starts _ _ _ _ _ _ c.heads.invariant (omega arith) (λ e. absurd (omega arith))
