use Rattle.rule_system.proofs.tests.finds_the_ring_plainly.Goals as goal

pub arrivals-requires-clause-connected : goal.arrivals-requires-clause-connected
arrivals-requires-clause-connected g c = rw c.in_ok-system.ensures c.ring_has_its_period.ensures.connected

pub arrivals-requires-clause-no_gain : goal.arrivals-requires-clause-no_gain
arrivals-requires-clause-no_gain g c = rw c.in_ok-system.ensures c.ring_has_its_period.ensures.period.greatest
