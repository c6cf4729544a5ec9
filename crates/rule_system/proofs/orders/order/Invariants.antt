use Rattle.std.proofs.Common.{ℕ, ◌<◌}
use Rattle.rule_system.specs.Orders.{ArePlaces, AreTried, place_of}
use Rattle.rule_system.proofs.orders.order.Given as goal

abbrev pub invariant-events : goal.invariant-events
invariant-events l =
    ArePlaces l.system.events l.system.rules l.order.items l.places.items
    × AreTried l.system.events l.system.rules l.places.items l.tried.items
    × ((other : ℕ) → other < l.event → place_of l.places.items other < l.system.events)
