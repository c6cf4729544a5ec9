use Rattle.netlist_analysis.proofs.Tellings.{tellings_same}
use Rattle.netlist_analysis.proofs.laws.tellings_agree.Goals as goal

pub returns : goal.returns
returns c = tellings_same c.finding_is_unique.ensures
