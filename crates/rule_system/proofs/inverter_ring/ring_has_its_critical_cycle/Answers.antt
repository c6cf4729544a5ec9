use Rattle.rule_system.proofs.RingFacts.{ring_is_critical}
use Rattle.rule_system.proofs.inverter_ring.ring_has_its_critical_cycle.Goals as goal

pub returns : goal.returns
returns c = ring_is_critical
