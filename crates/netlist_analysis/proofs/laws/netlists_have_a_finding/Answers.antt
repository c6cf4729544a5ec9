use Rattle.netlist_analysis.proofs.OneFinding.{has_finding}
use Rattle.netlist_analysis.proofs.laws.netlists_have_a_finding.Goals as goal

pub returns : goal.returns
returns c = has_finding c.systems_are_sound_or_at_fault.ensures c.analysis_exists.ensures c.rules_are_within.ensures
