use Rattle.version_store.proofs.Later.{room_found}
use Rattle.version_store.proofs.laws.turns_find_room.Goals as goal

pub returns : goal.returns
returns g c = room_found _
