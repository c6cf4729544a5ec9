use Rattle.std.proofs.Common.{◌≡◌, ◌+◌, drop}
use Rattle.rule_system.specs.Rules.{delay_sum}
use Rattle.rule_system.proofs.measures.delay_of.Given as goal

abbrev pub invariant-numbers : goal.invariant-numbers
invariant-numbers l = l.sum + delay_sum l.rules (drop l.number-index l.walk) ≡ delay_sum l.rules l.walk
