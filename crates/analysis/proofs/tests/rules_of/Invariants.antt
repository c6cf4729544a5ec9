use Rattle.std.proofs.Common.{All}
use Rattle.rule_system.specs.Bounds.{IsRule}
use Rattle.analysis.proofs.tests.rules_of.Given as goal

abbrev pub invariant-rules : goal.invariant-rules
invariant-rules g l = All (IsRule l.events) l.rules.items
