use Rattle.cyc_text.proofs.ReadBackLemmas.{words_are_plain}
use Rattle.cyc_text.proofs.laws.words_are_plain.Goals as goal

pub returns : goal.returns
returns c = words_are_plain
