use Rattle.rule_system.proofs.PlainPeriod.{IsGreatestBelow}
use Rattle.rule_system.proofs.plain.is_period.Given as goal

abbrev pub invariant-rules : goal.invariant-rules
invariant-rules l = IsGreatestBelow l.top l.bottom l.system.rules l.system.events l.number l.best
