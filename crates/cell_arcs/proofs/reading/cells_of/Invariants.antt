use Rattle.std.proofs.Common.{◌≡◌, ◌+◌, length}
use Rattle.toml.specs.View.{members_view}
use Rattle.cell_arcs.specs.Library as spec
use Rattle.cell_arcs.proofs.Prefixes.{behind}
use Rattle.cell_arcs.proofs.reading.cells_of.Given as goal

abbrev pub invariant-loop-name : goal.invariant-loop-name
invariant-loop-name l =
    spec.cells_from 1 (members_view l.table.entries) ≡ behind l.cells.items (spec.cells_from (length l.cells.items + 1) (members_view l.name-iterator))
