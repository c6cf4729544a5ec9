use Rattle.cell_arcs.proofs.Computed.{equal_pins}
use Rattle.cell_arcs.proofs.samples.equal_pins_are_refused.Goals as goal

pub returns : goal.returns
returns c = equal_pins
