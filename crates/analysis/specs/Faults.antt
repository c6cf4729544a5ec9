-- Why a system has no analysis.
use Rattle.liveness_check.specs.declared.faults.LiveFault.{LiveFault}
use Rattle.liveness_check.specs.declared.faults.LiveFault.TheVariants as live
use Rattle.analysis.specs.declared.faults.AnalyseFault.{AnalyseFault}
use Rattle.analysis.specs.declared.faults.AnalyseFault.TheVariants.{Unreached, NoReturn, Dead, Memory}

-- the fault as the check for connection and liveness gives it
abbrev pub live_fault : AnalyseFault → LiveFault
live_fault (Unreached event) = live.Unreached event
live_fault (NoReturn event) = live.NoReturn event
live_fault (Dead cycle) = live.Dead cycle
live_fault Memory = live.Memory
