use Rattle.cell_arcs.proofs.FirstPins.{finds_first_bad_name}
use Rattle.cell_arcs.proofs.laws.first_bad_name.Goals as goal

pub returns : goal.returns
returns c = finds_first_bad_name
