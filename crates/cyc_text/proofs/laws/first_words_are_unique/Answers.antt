use Rattle.cyc_text.proofs.FirstWordLemmas.{first_words_are_unique}
use Rattle.cyc_text.proofs.laws.first_words_are_unique.Goals as goal

pub returns : goal.returns
returns c = first_words_are_unique
