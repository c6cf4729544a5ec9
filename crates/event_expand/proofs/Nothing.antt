-- A netlist without instances.
use Rattle.std.proofs.Common.{List, [], arith}
use Rattle.cell_arcs.specs.declared.cells.Cell.{Cell}
use Rattle.netlist_model.specs.Sound.{Fits}

-- it fits every library
pub fits_nothing : (library : List Cell) → Fits library []
fits_nothing library k d lt = absurd (omega arith)
