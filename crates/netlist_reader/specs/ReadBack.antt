-- Written netlists are read back.
use Rattle.std.specs.Prelude.{◌≡◌, List, Ok}
use Rattle.cell_arcs.specs.IsLibrary.{IsLibrary}
use Rattle.cell_arcs.specs.declared.cells.Cell.{Cell}
use Rattle.netlist_model.specs.Circuit.{Circuit}
use Rattle.netlist_model.specs.Sound.{Fits, IsNetlist}
use Rattle.netlist_reader.specs.Canonical.{canonical_text}
use Rattle.netlist_reader.specs.NetlistFiles.{netlist_of}

-- the canonical text of a netlist that fits a library is read back as that netlist
abbrev pub NetlistsReadBack : Type 0
NetlistsReadBack = (library : List Cell) (c : Circuit) → IsLibrary library → IsNetlist c → Fits library c.insts → netlist_of library (canonical_text library c) ≡ Ok c
