use Rattle.std.proofs.Common.{ℕ, ◌<◌}
use Rattle.first_cycle.specs.Levels.{level_of}
use Rattle.liveness_check.proofs.liveness.first_lost.Given as goal

abbrev pub invariant-events : goal.invariant-events
invariant-events l = (event : ℕ) → event < l.event → level_of l.levels event < l.events
