use Rattle.std.proofs.Common.{◌≡◌, length}
use Rattle.first_cycle.proofs.components.Components.leave.Given as goal

abbrev pub invariant-members : goal.invariant-members
invariant-members l = length l.self.numbers.items ≡ length l.initial.self.numbers.items

abbrev pub decreases-members : goal.decreases-members
decreases-members l = length l.self.waiting.items
