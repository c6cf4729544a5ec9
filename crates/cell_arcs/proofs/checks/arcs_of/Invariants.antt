use Rattle.std.proofs.Common.{◌≡◌, take, drop}
use Rattle.cell_arcs.specs.Library as spec
use Rattle.cell_arcs.proofs.Prefixes.{behind}
use Rattle.cell_arcs.proofs.checks.arcs_of.Given as goal

abbrev pub invariant-loop-i : goal.invariant-loop-i
invariant-loop-i l =
    spec.arcs_of l.cell l.inputs l.shapes ≡ behind l.arcs.items (spec.arcs_after l.cell l.inputs (take l.i l.shapes) (drop l.i l.shapes))
