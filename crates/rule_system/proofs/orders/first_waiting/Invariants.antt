use Rattle.std.proofs.Common.{ℕ, ◌<◌, ◌≤◌, get_or, length}
use Rattle.rule_system.specs.Orders.{IsSettled}
use Rattle.rule_system.proofs.orders.first_waiting.Given as goal

abbrev pub invariant-numbers : goal.invariant-numbers
invariant-numbers l = (k : ℕ) → l.first ≤ k → k < l.at → k < length l.row → IsSettled l.system.events l.system.rules l.places (get_or l.row k 0)
