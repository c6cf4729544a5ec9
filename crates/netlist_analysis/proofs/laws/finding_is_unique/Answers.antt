use Rattle.netlist_analysis.proofs.OneFinding.{same_finding}
use Rattle.netlist_analysis.proofs.laws.finding_is_unique.Goals as goal

pub returns : goal.returns
returns c = same_finding c.analysis_is_unique.ensures c.first_fault_is_unique.ensures c.sound_systems_have_no_fault.ensures
