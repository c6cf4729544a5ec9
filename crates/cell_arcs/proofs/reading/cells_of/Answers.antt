use Rattle.std.proofs.Common.{◌≡◌, Ok, ◌∙◌}
use Rattle.cell_arcs.specs.Library.{cells_from}
use Rattle.cell_arcs.proofs.Documents.{cells_of_table}
use Rattle.cell_arcs.proofs.Prefixes.{behind_all}
use Rattle.toml.specs.View.{members_view}
use Rattle.cell_arcs.proofs.reading.cells_of.Goals as goal

pub returns-clause-library : goal.returns-clause-library
unfolding cells_from
returns-clause-library c =
    let read : cells_from 1 (members_view c.args.table.now.entries) ≡ Ok c.loop-name.cells.items = c.loop-name.invariant ∙ rw c.in-None.ensures.steps.0 (behind_all c.loop-name.cells.items) in
    cells_of_table c.args.table.now.entries c.loop-name.cells.items read c.len.ensures.ordered
