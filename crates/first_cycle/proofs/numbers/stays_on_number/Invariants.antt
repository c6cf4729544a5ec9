use Rattle.std.proofs.Common.{ℕ, ◌<◌, get_or}
use Rattle.rule_system.specs.Bounds.{rules_out_of}
use Rattle.first_cycle.specs.Numbers.{StaysOnNumber}
use Rattle.first_cycle.proofs.numbers.stays_on_number.Given as goal

abbrev pub invariant-rules : goal.invariant-rules
invariant-rules l = (k : ℕ) → k < l.number-index → StaysOnNumber l.system.rules l.keep l.numbers l.event (get_or (rules_out_of l.system.rules l.event) k 0) → ⊥
