use Rattle.netlist_reader.proofs.FirstRefusal.{first_line_refuses}
use Rattle.netlist_reader.proofs.laws.first_line_refuses.Goals as goal

pub returns : goal.returns
returns c = first_line_refuses
