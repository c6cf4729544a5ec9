use Rattle.first_cycle.specs.Ways.{rules_along}
use Rattle.first_cycle.proofs.Passes.{IsPass}
use Rattle.first_cycle.proofs.levels.lower.Given as goal

abbrev pub invariant-rules : goal.invariant-rules
invariant-rules l = IsPass (rules_along l.way l.system.rules) l.keep l.end l.number l.initial.levels l.levels l.lowered
