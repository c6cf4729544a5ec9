use Rattle.rule_system.specs.FirstCycle.{kept_by}
use Rattle.rule_system.proofs.PlainWalks.{NoneShorter}
use Rattle.rule_system.proofs.plain.first_from.Given as goal

abbrev pub invariant-counts : goal.invariant-counts
invariant-counts l = NoneShorter l.system.rules (kept_by l.keep) l.start l.fewer
