use Rattle.std.proofs.Common.{All, take}
use Rattle.cyc_num.specs.Within.{LiesWithin}
use Rattle.cycle_ratio.proofs.checking.are_within.Given as goal

abbrev pub invariant-numbers : goal.invariant-numbers
invariant-numbers l = All (LiesWithin 40000000000000000) (take l.number-index l.numbers)
