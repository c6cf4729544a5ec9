use Rattle.cyc_text.proofs.NumberLemmas.{test_tells_numbers}
use Rattle.cyc_text.proofs.laws.numbers_are_told.Goals as goal

pub returns : goal.returns
returns c = test_tells_numbers
