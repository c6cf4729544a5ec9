use Rattle.std.proofs.Common.{◌≡◌, ◌≤◌, length}
use Rattle.first_cycle.proofs.components.component_numbers.Given as goal

abbrev pub invariant-steps : goal.invariant-steps
invariant-steps l = (length l.search.numbers.items ≡ l.system.events) × (l.start ≤ l.events)
