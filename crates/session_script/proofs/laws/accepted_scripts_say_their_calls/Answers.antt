use Rattle.session_script.proofs.FaultLemmas.{accepted_scripts_say_calls}
use Rattle.session_script.proofs.laws.accepted_scripts_say_their_calls.Goals as goal

pub returns : goal.returns
returns c = accepted_scripts_say_calls
