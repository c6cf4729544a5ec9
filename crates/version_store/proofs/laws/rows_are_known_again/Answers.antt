use Rattle.version_store.proofs.Later.{rows_kept}
use Rattle.version_store.proofs.laws.rows_are_known_again.Goals as goal

pub returns : goal.returns
returns g c = rows_kept _
