use Rattle.std.proofs.Common.{◌≡◌, length, All}
use Rattle.rule_system.specs.Bounds.{IsRule}
use Rattle.cycle_ratio.proofs.tests.rules_of.Given as goal

abbrev pub invariant-rows : goal.invariant-rows
invariant-rows l = (length l.rules.items ≡ l.source-index) × All (IsRule l.events) l.rules.items
