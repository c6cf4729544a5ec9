use Rattle.cell_arcs.proofs.Computed.{ring}
use Rattle.cell_arcs.proofs.samples.ring_library_is_accepted.Goals as goal

pub returns : goal.returns
returns c = ring
