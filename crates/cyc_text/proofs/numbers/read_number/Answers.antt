use Rattle.cyc_text.proofs.NumberLemmas.{number_of-is}
use Rattle.cyc_text.proofs.numbers.read_number.Goals as goal

pub returns : goal.returns
returns c = number_of-is c.args.word.now c.read_digits.result c.read_digits.ensures
