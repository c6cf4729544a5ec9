use Rattle.std.proofs.Common.{All}
use Rattle.rule_system.specs.Bounds.{IsRule}
use Rattle.analysis.proofs.drawn_tests.drawn_rules.Given as goal

abbrev pub invariant-rules : goal.invariant-rules
invariant-rules l = All (IsRule l.events) l.rules.items
