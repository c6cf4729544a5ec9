use Rattle.rule_system.specs.FirstCycle.{kept_by}
use Rattle.rule_system.proofs.PlainWalks.{NoneBefore}
use Rattle.rule_system.proofs.plain.first_cycle.Given as goal

abbrev pub invariant-starts : goal.invariant-starts
invariant-starts l = NoneBefore l.system.rules (kept_by l.keep) l.start
