use Rattle.session_script.proofs.FaultLemmas.{first_faulty_line}
use Rattle.session_script.proofs.laws.first_faulty_line_is_told.Goals as goal

pub returns : goal.returns
returns c = first_faulty_line
