use Rattle.cyc_text.proofs.ReadBackLemmas.{words_are_read_back}
use Rattle.cyc_text.proofs.laws.words_are_read_back.Goals as goal

pub returns : goal.returns
returns c = words_are_read_back
