use Rattle.rule_system.specs.Walks.{has_no_offset}
use Rattle.liveness_check.proofs.OneFault.{same_fault}
use Rattle.liveness_check.proofs.laws.first_fault_is_unique.Goals as goal

pub returns : goal.returns
returns c = λ events rules root fault other. same_fault events rules root fault other (record { same = c.first_cycle_is_unique.ensures rules (has_no_offset rules) })
