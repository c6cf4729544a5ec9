use Rattle.std.proofs.Common.{ℕ, ◌+◌, ◌-◌, ◌*◌, ◌<◌, length}
use Rattle.rule_system.specs.Orders.{ArePlaces, AreTried, IsTrail, place_of}
use Rattle.rule_system.proofs.orders.place.Given as goal

abbrev pub invariant-steps : goal.invariant-steps
invariant-steps l =
    ArePlaces l.system.events l.system.rules l.order.items l.places
    × AreTried l.system.events l.system.rules l.places l.tried
    × IsTrail l.system.events l.system.rules l.places l.root l.event l.trail.items
    × ((other : ℕ) → place_of l.fn.places other < l.system.events → place_of l.places other < l.system.events)

abbrev pub decreases-steps : goal.decreases-steps
decreases-steps l = (l.system.events - length l.order.items) * 40000 + (l.system.events - length l.trail.items)
