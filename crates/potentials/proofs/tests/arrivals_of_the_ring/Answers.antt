use Rattle.potentials.proofs.Rooted.{twice_the_first}
use Rattle.potentials.proofs.tests.arrivals_of_the_ring.Goals as goal

pub first_weights-requires-clause-reachable : goal.first_weights-requires-clause-reachable
first_weights-requires-clause-reachable g c = rw c.in_ok-system.ensures (λ event k. (c.ring_has_its_period.ensures.connected event k).0)

pub arrivals-requires-clause-connected : goal.arrivals-requires-clause-connected
arrivals-requires-clause-connected g c = rw c.in_ok-system.ensures c.ring_has_its_period.ensures.connected

pub arrivals_each-requires-clause-roots : goal.arrivals_each-requires-clause-roots
arrivals_each-requires-clause-roots g c = twice_the_first _ c.in_ok-system.ensures c.ring_has_its_period.ensures.connected
