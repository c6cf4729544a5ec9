use Rattle.rule_system.specs.InverterRing.{inverter_ring, ring_times}
use Rattle.arrival_words.proofs.Samples.{attained_at, arrivals_attained}
use Rattle.arrival_words.proofs.tests.two_seats_relax_the_ring.Goals as goal

pub open-requires-clause-start : goal.open-requires-clause-start
open-requires-clause-start g c = attained_at c.of.result.top c.of.result.bottom 66 6 inverter_ring ring_times c.in_ok-system.system c.in_ok-system.ensures
    c.of.ensures.equal c.of.ensures.bottom c.of.ensures.lowest.positive (arrivals_attained 66 1 6 inverter_ring 0 ring_times c.ring_has_its_arrivals.ensures)
