use Rattle.std.proofs.Common.{◌≡◌, ◌<◌, ◌⊎◌, ℕ}
use Rattle.liveness_check.specs.Shown.{ComesLower}
use Rattle.liveness_check.proofs.shown.all_come_lower.Given as goal

abbrev pub invariant-events : goal.invariant-events
invariant-events l = (event : ℕ) → event < l.event → (event ≡ l.root) ⊎ ComesLower l.rules l.tree.ranks.items event
