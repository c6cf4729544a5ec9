use Rattle.cyc_text.proofs.DecimalLemmas.{number_word, number_read}
use Rattle.cyc_text.proofs.laws.numbers_are_read_back.Goals as goal

pub returns-clause-words : goal.returns-clause-words
returns-clause-words c = number_word

pub returns-clause-read_back : goal.returns-clause-read_back
returns-clause-read_back c = number_read
