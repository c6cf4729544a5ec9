use Rattle.std.proofs.Common.{pos, arith}
use Rattle.std.proofs.lemmas.Int.{ints}
use Rattle.std.proofs.lemmas.List.{take_all}
use Rattle.std.proofs.lemmas.List.Elements.{All-more}
use Rattle.cyc_num.specs.Within.{LiesWithin}
use Rattle.cycle_ratio.proofs.checking.are_within.Goals as goal

pub numbers-preserved : goal.numbers-preserved
numbers-preserved c = All-more (LiesWithin 40000000000000000) _ _ (pos 0) c.numbers-test.true c.numbers.invariant (let h = c.is_within.ensures c.if-not-is_within.false in (omega (arith, ints), omega (arith, ints)))

pub returns : goal.returns
returns c = λ e. rw (take_all c.numbers.number-index c.args.numbers.now c.numbers-test.false) at c.numbers.invariant
