use Rattle.cell_arcs.proofs.FirstPins.{finds_first_repeated_source}
use Rattle.cell_arcs.proofs.laws.first_repeated_source.Goals as goal

pub returns : goal.returns
returns c = finds_first_repeated_source
