use Rattle.cell_arcs.proofs.FirstPins.{finds_first_repeat}
use Rattle.cell_arcs.proofs.laws.first_repeated_pin.Goals as goal

pub returns : goal.returns
returns c = finds_first_repeat
