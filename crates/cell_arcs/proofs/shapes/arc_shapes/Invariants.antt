use Rattle.std.proofs.Common.{◌≡◌, drop}
use Rattle.toml.specs.View.{items_view}
use Rattle.cell_arcs.specs.Library as spec
use Rattle.cell_arcs.proofs.Prefixes.{after}
use Rattle.cell_arcs.proofs.shapes.arc_shapes.Given as goal

abbrev pub invariant-loop-value : goal.invariant-loop-value
invariant-loop-value l =
    spec.each spec.arc_shape (items_view l.values) ≡ after l.shapes.items (spec.each spec.arc_shape (items_view (drop l.value-index l.values)))
