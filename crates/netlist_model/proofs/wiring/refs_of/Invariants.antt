use Rattle.std.proofs.Common.{◌≡◌, ◌++◌, ◌∷◌, [], Some, All, take, drop, length, map}
use Rattle.netlist_model.specs.Circuit.{ref_of}
use Rattle.netlist_model.specs.Sound.{IsPin}
use Rattle.netlist_model.specs.Statements as spec
use Rattle.netlist_model.proofs.wiring.refs_of.Given as goal

abbrev pub invariant-loop-i : goal.invariant-loop-i
invariant-loop-i l = (spec.pin_fault l.nets l.consts (l.cell.inputs ++ l.cell.output ∷ []) [] l.words ≡ spec.pin_fault l.nets l.consts (l.cell.inputs ++ l.cell.output ∷ []) (take l.i l.words) (drop l.i l.words))
    × (map (λ w. ref_of l.nets l.consts w.net) (take l.i l.words) ≡ map Some l.refs.items)
    × All (IsPin (length l.nets) (length l.consts)) l.refs.items
