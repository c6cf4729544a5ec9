-- The first event of the inverter ring as a root.
use Rattle.std.proofs.Common.{◌≡◌, ℕ, All, [], ◌∷◌, zero, suc, arith}
use Rattle.rule_system.specs.Bounds.{EventRules}
use Rattle.rule_system.specs.InverterRing.{inverter_ring}
use Rattle.rule_system.specs.Walks.{IsConnected}
use Rattle.potentials.specs.Makers.{IsRootOf}

pub twice_the_first : (system : EventRules) → system ≡ (record { events = 6; rules = inverter_ring }) → IsConnected 6 inverter_ring 0 → All (IsRootOf system) (0 ∷ 0 ∷ [])
twice_the_first system is h = rw is (both h)
  where
    ring : EventRules
    ring = record { events = 6; rules = inverter_ring }

    both : IsConnected 6 inverter_ring 0 → All (IsRootOf ring) (0 ∷ 0 ∷ [])
    both h zero d low = (omega arith, h)
    both h (suc zero) d low = (omega arith, h)
    both h (suc (suc i)) d low = absurd (omega arith)
