use Rattle.std.proofs.Common.{◌≡◌, All, vec_len}
use Rattle.rule_system.specs.Bounds.{IsRule}
use Rattle.liveness_check.proofs.tests.rules_of.Given as goal

abbrev pub invariant-parts : goal.invariant-parts
invariant-parts g l = (vec_len l.rules ≡ l.source-index) × All (IsRule l.events) l.rules.items
