use Rattle.std.proofs.Common.{◌≡◌, ◌++◌, ◌∷◌, [], take, drop}
use Rattle.cell_arcs.specs.Library as spec
use Rattle.cell_arcs.proofs.checks.repeated_pin.Given as goal

abbrev pub invariant-loop-i : goal.invariant-loop-i
invariant-loop-i l = spec.repeated_pin (l.inputs ++ l.output ∷ []) ≡ spec.repeat_after (take l.i l.inputs) (drop l.i l.inputs ++ l.output ∷ [])
