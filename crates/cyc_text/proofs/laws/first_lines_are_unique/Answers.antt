use Rattle.cyc_text.proofs.FirstLineLemmas.{first_lines_are_unique}
use Rattle.cyc_text.proofs.laws.first_lines_are_unique.Goals as goal

pub returns : goal.returns
returns c = first_lines_are_unique
