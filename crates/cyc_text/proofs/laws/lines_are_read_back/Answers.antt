use Rattle.cyc_text.proofs.ReadBackLemmas.{lines_are_read_back}
use Rattle.cyc_text.proofs.laws.lines_are_read_back.Goals as goal

pub returns : goal.returns
returns c = lines_are_read_back
