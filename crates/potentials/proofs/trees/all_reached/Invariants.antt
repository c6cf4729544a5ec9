use Rattle.std.proofs.Common.{ℕ, ◌<◌}
use Rattle.potentials.specs.Trees.{IsReached}
use Rattle.potentials.proofs.trees.all_reached.Given as goal

abbrev pub invariant-events : goal.invariant-events
invariant-events l = (event : ℕ) → event < l.event-index → IsReached l.reached event
