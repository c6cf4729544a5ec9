use Rattle.netlist_analysis.proofs.Tellings.{telling}
use Rattle.netlist_analysis.proofs.laws.tellings_exist.Goals as goal

pub returns : goal.returns
returns c = telling c.netlists_have_a_finding.ensures
