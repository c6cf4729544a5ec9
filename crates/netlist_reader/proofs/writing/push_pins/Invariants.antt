use Rattle.std.proofs.Common.{◌≡◌, ◌++◌, drop}
use Rattle.cyc_text.specs.Written.{ended}
use Rattle.netlist_reader.specs.Canonical as spec
use Rattle.std.proofs.Common.{◌∷◌, []}
use Rattle.netlist_reader.proofs.writing.push_pins.Given as goal

abbrev pub invariant-loop-at : goal.invariant-loop-at
invariant-loop-at l = l.text.items ++ ended (spec.pin_names l.net.nets l.net.consts (drop l.at (l.cell.inputs ++ l.cell.output ∷ [])) (drop l.at l.pins)) ≡ l.fn.text.items ++ ended (spec.pin_names l.net.nets l.net.consts (l.cell.inputs ++ l.cell.output ∷ []) l.pins)
