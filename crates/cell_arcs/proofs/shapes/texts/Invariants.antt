use Rattle.std.proofs.Common.{◌≡◌, drop}
use Rattle.toml.specs.Data.{as_str}
use Rattle.toml.specs.View.{items_view}
use Rattle.cell_arcs.specs.Library as spec
use Rattle.cell_arcs.proofs.Prefixes.{after}
use Rattle.cell_arcs.proofs.shapes.texts.Given as goal

abbrev pub invariant-loop-value : goal.invariant-loop-value
invariant-loop-value l =
    spec.each as_str (items_view l.values) ≡ after l.texts.items (spec.each as_str (items_view (drop l.value-index l.values)))
