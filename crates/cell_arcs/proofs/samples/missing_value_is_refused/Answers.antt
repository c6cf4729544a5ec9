use Rattle.cell_arcs.proofs.Computed.{no_value}
use Rattle.cell_arcs.proofs.samples.missing_value_is_refused.Goals as goal

pub returns : goal.returns
returns c = no_value
