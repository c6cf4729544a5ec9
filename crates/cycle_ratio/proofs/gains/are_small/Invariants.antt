use Rattle.std.proofs.Common.{ℕ, ◌<◌, ◌≤◌}
use Rattle.first_cycle.specs.Numbers.{number_of}
use Rattle.cycle_ratio.proofs.gains.are_small.Given as goal

abbrev pub invariant-numbers : goal.invariant-numbers
invariant-numbers l = (event : ℕ) → event < l.number-index → number_of l.numbers event ≤ 20000000000000000
