use Rattle.std.proofs.Common.{◌≡◌, ◌<◌, ◌⊎◌, ℕ}
use Rattle.liveness_check.specs.Shown.{GoesLower}
use Rattle.liveness_check.proofs.shown.all_go_lower.Given as goal

abbrev pub invariant-events : goal.invariant-events
invariant-events l = (event : ℕ) → event < l.event → (event ≡ l.root) ⊎ GoesLower l.rules l.tree.ranks.items event
