use Rattle.version_store.proofs.Later.{origin_kept}
use Rattle.version_store.proofs.laws.calls_keep_the_origin.Goals as goal

pub returns : goal.returns
returns g c = origin_kept _
