use Rattle.relax_rounds.proofs.tests.ring_arrivals.Goals as goal

pub arrivals-requires-clause-connected : goal.arrivals-requires-clause-connected
arrivals-requires-clause-connected g c = rw c.in_ok-system.ensures c.ring_has_its_period.ensures.connected
