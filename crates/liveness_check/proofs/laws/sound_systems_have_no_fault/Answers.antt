use Rattle.liveness_check.proofs.OneFault.{no_fault}
use Rattle.liveness_check.proofs.laws.sound_systems_have_no_fault.Goals as goal

pub returns : goal.returns
returns c = λ events rules root fault. no_fault events rules root fault (record { none = c.dead_cycles_have_no_offset.ensures rules })
