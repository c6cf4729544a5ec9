use Rattle.std.proofs.Common.{◌≡◌, All, vec_len}
use Rattle.rule_system.specs.Bounds.{IsRule}
use Rattle.first_cycle.proofs.tests.rules_between.Given as goal

abbrev pub invariant-ends : goal.invariant-ends
invariant-ends g l = (vec_len l.rules ≡ l.source-index) × All (IsRule l.events) l.rules.items
