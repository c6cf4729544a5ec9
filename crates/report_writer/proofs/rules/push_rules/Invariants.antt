use Rattle.std.proofs.Common.{◌≡◌, ◌++◌, drop}
use Rattle.report_writer.specs.RulesText as spec
use Rattle.report_writer.proofs.rules.push_rules.Given as goal

abbrev pub invariant-loop-number : goal.invariant-loop-number
invariant-loop-number l = l.text.items ++ spec.rule_lines l.net.nets l.number (drop l.number l.rules) ≡ l.fn.text.items ++ spec.rule_lines l.net.nets 0 l.rules
