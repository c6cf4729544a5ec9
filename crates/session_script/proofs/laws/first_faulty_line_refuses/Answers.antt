use Rattle.session_script.proofs.ReadLemmas.{faulty_line_refuses}
use Rattle.session_script.proofs.laws.first_faulty_line_refuses.Goals as goal

pub returns : goal.returns
returns c = faulty_line_refuses
