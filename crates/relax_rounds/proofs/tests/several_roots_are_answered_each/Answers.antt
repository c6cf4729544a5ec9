use Rattle.potentials.proofs.Rooted.{twice_the_first}
use Rattle.relax_rounds.proofs.tests.several_roots_are_answered_each.Goals as goal

pub arrivals_each-requires-clause-roots : goal.arrivals_each-requires-clause-roots
arrivals_each-requires-clause-roots g c = twice_the_first _ c.in_ok-system.ensures c.ring_has_its_period.ensures.connected
