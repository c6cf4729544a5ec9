-- What pins are on, by pin words and what the words' nets are.
use Rattle.std.specs.Prelude.{ℕ, List, [], ◌∷◌, ◌++◌, Option, Some, option_and_then, position, slice_get, Result, Ok}
use Rattle.std.specs.Str.{bytes_eq}
use Rattle.cell_arcs.specs.Steps.{◌>>=◌, or_fault, unless_fault}
use Rattle.cell_arcs.specs.declared.cells.Cell.{Cell}
use Rattle.netlist_model.specs.Statements.{pin_fault, wire_of, wires_of}
use Rattle.netlist_model.specs.declared.faults.StatementFault.{StatementFault}
use Rattle.netlist_model.specs.declared.faults.StatementFault.TheVariants.{BadPins}
use Rattle.netlist_model.specs.declared.parts.NetRef.{NetRef}
use Rattle.netlist_model.specs.declared.parts.PinNet.{PinNet}

-- what a pin is on: what the net of the first word that gives it is
unfoldable pub wired : List PinNet → List NetRef → List ℕ → Option NetRef
wired words refs pin = option_and_then (slice_get refs) (position (λ w. bytes_eq pin w.pin) words)

-- what the pins are on, after those done, if each is given
unfoldable pub all_wired : List PinNet → List NetRef → List NetRef → List (List ℕ) → Option (List NetRef)
all_wired words refs done [] = Some done
all_wired words refs done (p ∷ ps) = option_and_then (λ r. all_wired words refs (done ++ r ∷ []) ps) (wired words refs p)

-- what the inputs of a cell and its output are on by pin words, or why not
unfoldable pub pins_of : List (List ℕ) → List (List ℕ) → Cell → List PinNet → Result (List NetRef × NetRef) StatementFault
pins_of nets consts k words =
    unless_fault (pin_fault nets consts (k.inputs ++ k.output ∷ []) [] words)
    (or_fault BadPins (wires_of nets consts words [] k.inputs) >>= (λ inputs.
    or_fault BadPins (wire_of nets consts words k.output) >>= (λ output. Ok (inputs, output))))
