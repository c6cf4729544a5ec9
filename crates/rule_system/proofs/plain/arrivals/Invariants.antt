use Rattle.rule_system.proofs.GreatestWeight.{AreFirstArrivals}
use Rattle.rule_system.proofs.plain.arrivals.Given as goal

abbrev pub invariant-events : goal.invariant-events
invariant-events l = AreFirstArrivals l.top l.bottom l.system.rules l.root l.event l.times.items
