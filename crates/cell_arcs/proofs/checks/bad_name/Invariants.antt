use Rattle.std.proofs.Common.{◌≡◌, ◌+◌, ◌++◌, ◌∷◌, [], drop, not}
use Rattle.std.specs.List.{position_from}
use Rattle.cyc_text.specs.Name.{is_name}
use Rattle.cell_arcs.specs.Library as spec
use Rattle.cell_arcs.proofs.checks.bad_name.Given as goal

abbrev pub invariant-loop-i : goal.invariant-loop-i
invariant-loop-i l = spec.bad_name (l.inputs ++ l.output ∷ []) ≡ position_from (λ p. not (is_name p)) (l.i + 1) (drop l.i l.inputs ++ l.output ∷ [])
