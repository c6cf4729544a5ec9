use Rattle.session_script.proofs.ReadLemmas.{said_calls_are_read}
use Rattle.session_script.proofs.laws.said_calls_are_read.Goals as goal

pub returns : goal.returns
returns c = said_calls_are_read
