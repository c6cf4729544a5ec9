use Rattle.session_machine.proofs.Sound.{made_versions_have_netlists}
use Rattle.session_machine.proofs.laws.made_versions_have_netlists.Goals as goal

pub returns : goal.returns
returns c = made_versions_have_netlists
