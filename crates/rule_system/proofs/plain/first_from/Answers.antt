use Rattle.std.proofs.Common.{arith}
use Rattle.rule_system.proofs.PlainWalks.{first_back, none_back, none_yet}
use Rattle.rule_system.proofs.plain.first_from.Goals as goal

pub returns-in-Some-clause-some : goal.returns-in-Some-clause-some
returns-in-Some-clause-some c = first_back _ _ _ _ _ c.counts.invariant (rw (c.rules-rules.ensures.rules, c.in-Some.is) at c.in_ok-cycle.ensures.some)

pub counts-preserved : goal.counts-preserved
counts-preserved c = none_yet _ _ _ _ c.counts.invariant (rw (c.rules-rules.ensures.rules, c.in_default.is) at c.in_ok-cycle.ensures.none)

pub returns-clause-none : goal.returns-clause-none
returns-clause-none c = none_back _ _ _ _ _ c.rules-rules.ensures.ends (omega arith) c.counts.invariant
