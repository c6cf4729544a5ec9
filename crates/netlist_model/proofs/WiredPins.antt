-- What pins are on, found with one look-up for each word.
use Rattle.std.proofs.Common.{◌≡◌, ℕ, ◌+◌, List, [], ◌∷◌, ◌++◌, All, length, map, suc, slice_get, find, Bool, true, false, Option, Some, None, option_map, option_and_then, position, Result, Ok, Err, refl, sym, ap, subst, ◌∙◌, arith, if◌then◌else◌}
use Rattle.std.proofs.lemmas.List.{length-append}
use Rattle.std.proofs.lemmas.List.Elements.{All-push}
use Rattle.std.proofs.lemmas.Option.{slice_get_within, get_or_from_slice_get}
use Rattle.std.specs.Str.{bytes_eq}
use Rattle.cell_arcs.specs.Steps.{◌>>=◌, or_fault, unless_fault}
use Rattle.cell_arcs.specs.declared.cells.Cell.{Cell}
use Rattle.netlist_model.specs.Circuit.{Circuit, ref_of}
use Rattle.netlist_model.specs.Statements.{add_inst_of, output_fault, pin_fault, wire_of, wires_of}
use Rattle.netlist_model.specs.Wired.{wired, all_wired, pins_of}
use Rattle.netlist_model.specs.declared.faults.StatementFault.{StatementFault}
use Rattle.netlist_model.specs.declared.faults.StatementFault.TheVariants.{BadPins}
use Rattle.netlist_model.specs.declared.parts.NetRef.{NetRef}
use Rattle.netlist_model.specs.declared.parts.PinNet.{PinNet}
use Rattle.netlist_model.proofs.Places.{position-cons}

-- what the first element that passes gives, by the list of what each gives
given_at : {A B : Type 0} (f : A → Option B) (p : A → Bool) (xs : List A) (ys : List B) → map f xs ≡ map Some ys →
    option_and_then (slice_get ys) (position p xs) ≡ option_and_then f (find p xs)
given_at f p [] ys e = refl
given_at f p (x ∷ xs) [] e = cc
given_at f p (x ∷ xs) (y ∷ ys) e =
    let head : f x ≡ Some y = cc in
    let tail : map f xs ≡ map Some ys = cc in
    rw (position-cons p x xs) (by head (given_at f p xs ys tail) (p x) refl)
  where
    shifted : (o : Option ℕ) → option_and_then (slice_get (y ∷ ys)) (option_map (λ k. 1 + k) o) ≡ option_and_then (slice_get ys) o
    shifted (Some k) = let e : 1 + k ≡ suc k = omega arith in rw e refl
    shifted None = refl

    by : f x ≡ Some y → option_and_then (slice_get ys) (position p xs) ≡ option_and_then f (find p xs) → (b : Bool) → p x ≡ b
        → option_and_then (slice_get (y ∷ ys)) (if b then Some 0 else option_map (λ k. 1 + k) (position p xs)) ≡ option_and_then f (find p (x ∷ xs))
    by head rest true q = rw q (sym head)
    by head rest false q = rw q (shifted (position p xs) ∙ rest)

-- a pin is on what its word's net is
pub wired_is : (nets consts : List (List ℕ)) (words : List PinNet) (refs : List NetRef) (pin : List ℕ) → map (λ w. ref_of nets consts w.net) words ≡ map Some refs →
    wired words refs pin ≡ wire_of nets consts words pin
unfolding wired
wired_is nets consts words refs pin e = given_at (λ w. ref_of nets consts w.net) (λ w. bytes_eq pin w.pin) words refs e

pub all_wired_is : (nets consts : List (List ℕ)) (words : List PinNet) (refs done : List NetRef) (pins : List (List ℕ)) → map (λ w. ref_of nets consts w.net) words ≡ map Some refs →
    all_wired words refs done pins ≡ wires_of nets consts words done pins
unfolding all_wired wires_of
all_wired_is nets consts words refs done [] e = refl
all_wired_is nets consts words refs done (p ∷ ps) e =
    rw (wired_is nets consts words refs p e) (by (wire_of nets consts words p) (λ r. all_wired_is nets consts words refs (done ++ r ∷ []) ps e))
  where
    by : (o : Option NetRef) → ((r : NetRef) → all_wired words refs (done ++ r ∷ []) ps ≡ wires_of nets consts words (done ++ r ∷ []) ps)
        → option_and_then (λ r. all_wired words refs (done ++ r ∷ []) ps) o ≡ option_and_then (λ r. wires_of nets consts words (done ++ r ∷ []) ps) o
    by (Some r) rest = rest r
    by None rest = refl

-- what a pin is on is among what the words' nets are
pub wired_within : (P : NetRef → Type 0) (words : List PinNet) (refs : List NetRef) (pin : List ℕ) (r : NetRef) → All P refs → wired words refs pin ≡ Some r → P r
unfolding wired
wired_within P words refs pin r all e = by (position (λ w. bytes_eq pin w.pin) words) e
  where
    by : (o : Option ℕ) → option_and_then (slice_get refs) o ≡ Some r → P r
    by (Some k) h = subst P (get_or_from_slice_get refs k r r h) (all k r (slice_get_within refs k r h))
    by None h = cc

pub all_wired_within : (P : NetRef → Type 0) (words : List PinNet) (refs done : List NetRef) (pins : List (List ℕ)) (found : List NetRef) → All P refs → All P done → all_wired words refs done pins ≡ Some found → All P found
unfolding all_wired
all_wired_within P words refs done [] found all before e = let same : done ≡ found = cc in subst (All P) same before
all_wired_within P words refs done (p ∷ ps) found all before e =
    by (wired words refs p) refl e (λ r. all_wired_within P words refs (done ++ r ∷ []) ps found all)
  where
    by : (o : Option NetRef) → wired words refs p ≡ o → option_and_then (λ r. all_wired words refs (done ++ r ∷ []) ps) o ≡ Some found
        → ((r : NetRef) → All P (done ++ r ∷ []) → all_wired words refs (done ++ r ∷ []) ps ≡ Some found → All P found) → All P found
    by (Some r) q h rest = rest r (All-push P done r before (wired_within P words refs p r all q)) h
    by None q h rest = cc

pub all_wired_each : (words : List PinNet) (refs done : List NetRef) (pins : List (List ℕ)) (found : List NetRef) → all_wired words refs done pins ≡ Some found → length found ≡ length done + length pins
unfolding all_wired
all_wired_each words refs done [] found e = let same : done ≡ found = cc in subst (λ (x : List NetRef). length x ≡ length done + 0) same (omega arith)
all_wired_each words refs done (p ∷ ps) found e = by (wired words refs p) e (λ r. all_wired_each words refs (done ++ r ∷ []) ps found)
  where
    by : (o : Option NetRef) → option_and_then (λ r. all_wired words refs (done ++ r ∷ []) ps) o ≡ Some found
        → ((r : NetRef) → all_wired words refs (done ++ r ∷ []) ps ≡ Some found → length found ≡ length (done ++ r ∷ []) + length ps) → length found ≡ length done + length (p ∷ ps)
    by (Some r) h rest = let n = rest r h in let one = length-append done (r ∷ []) in omega arith
    by None h rest = cc

-- the pins that the words give are those of an instance
pub pins_refused : (c : Circuit) (name : List ℕ) (at : ℕ) (k : Cell) (words : List PinNet) (e : StatementFault) → pins_of c.nets c.consts k words ≡ Err e → add_inst_of c name at k words ≡ Err e
unfolding pins_of add_inst_of
pins_refused c name at k words e is = by (pin_fault c.nets c.consts (k.inputs ++ k.output ∷ []) [] words) (wires_of c.nets c.consts words [] k.inputs) (wire_of c.nets c.consts words k.output) is
  where
    rest : List NetRef → NetRef → Result Circuit StatementFault
    rest inputs output = unless_fault (output_fault c.insts output)
        (Ok (record c { insts = c.insts ++ record { name = name; cell = at; pins = inputs ++ output ∷ []; delays = map (λ _. None) k.arcs } ∷ [] }))

    both : List NetRef → NetRef → Result (List NetRef × NetRef) StatementFault
    both inputs output = Ok (inputs, output)

    by : (f : Option StatementFault) (i : Option (List NetRef)) (o : Option NetRef)
        → unless_fault f (or_fault BadPins i >>= (λ inputs. or_fault BadPins o >>= (λ output. both inputs output))) ≡ Err e
        → unless_fault f (or_fault BadPins i >>= (λ inputs. or_fault BadPins o >>= (λ output. rest inputs output))) ≡ Err e
    by (Some x) i o h = cc
    by None None o h = cc
    by None (Some i) None h = cc
    by None (Some i) (Some o) h = cc

pub pins_given : (c : Circuit) (name : List ℕ) (at : ℕ) (k : Cell) (words : List PinNet) (inputs : List NetRef) (output : NetRef) → pins_of c.nets c.consts k words ≡ Ok (inputs, output)
    → add_inst_of c name at k words ≡ unless_fault (output_fault c.insts output)
    (Ok (record c { insts = c.insts ++ record { name = name; cell = at; pins = inputs ++ output ∷ []; delays = map (λ _. None) k.arcs } ∷ [] }))
unfolding pins_of add_inst_of
pins_given c name at k words inputs output is = by (pin_fault c.nets c.consts (k.inputs ++ k.output ∷ []) [] words) (wires_of c.nets c.consts words [] k.inputs) (wire_of c.nets c.consts words k.output) is
  where
    rest : List NetRef → NetRef → Result Circuit StatementFault
    rest inputs output = unless_fault (output_fault c.insts output)
        (Ok (record c { insts = c.insts ++ record { name = name; cell = at; pins = inputs ++ output ∷ []; delays = map (λ _. None) k.arcs } ∷ [] }))

    both : List NetRef → NetRef → Result (List NetRef × NetRef) StatementFault
    both inputs output = Ok (inputs, output)

    inputs_of : Result (List NetRef × NetRef) StatementFault → List NetRef
    inputs_of (Ok p) = p.0
    inputs_of (Err e) = inputs

    output_of : Result (List NetRef × NetRef) StatementFault → NetRef
    output_of (Ok p) = p.1
    output_of (Err e) = output

    by : (f : Option StatementFault) (i : Option (List NetRef)) (o : Option NetRef)
        → unless_fault f (or_fault BadPins i >>= (λ inputs. or_fault BadPins o >>= (λ output. both inputs output))) ≡ Ok (inputs, output)
        → unless_fault f (or_fault BadPins i >>= (λ inputs. or_fault BadPins o >>= (λ output. rest inputs output))) ≡ rest inputs output
    by (Some x) i o h = cc
    by None None o h = cc
    by None (Some i) None h = cc
    by None (Some i) (Some o) h = let a : i ≡ inputs = ap inputs_of h in let b : o ≡ output = ap output_of h in rw (a, b) refl

-- what the pins of a cell are on, with one look-up for each word
pub pins_missing : (nets consts : List (List ℕ)) (k : Cell) (words : List PinNet) (refs : List NetRef) → pin_fault nets consts (k.inputs ++ k.output ∷ []) [] words ≡ None
    → map (λ w. ref_of nets consts w.net) words ≡ map Some refs → all_wired words refs [] k.inputs ≡ None → pins_of nets consts k words ≡ Err BadPins
unfolding pins_of
pins_missing nets consts k words refs good found none = rw (good, sym (all_wired_is nets consts words refs [] k.inputs found), none) refl

pub output_missing : (nets consts : List (List ℕ)) (k : Cell) (words : List PinNet) (refs inputs : List NetRef) → pin_fault nets consts (k.inputs ++ k.output ∷ []) [] words ≡ None
    → map (λ w. ref_of nets consts w.net) words ≡ map Some refs → all_wired words refs [] k.inputs ≡ Some inputs → wired words refs k.output ≡ None → pins_of nets consts k words ≡ Err BadPins
unfolding pins_of
output_missing nets consts k words refs inputs good found some none =
    rw (good, sym (all_wired_is nets consts words refs [] k.inputs found), some, sym (wired_is nets consts words refs k.output found), none) refl

pub pins_found : (nets consts : List (List ℕ)) (k : Cell) (words : List PinNet) (refs inputs : List NetRef) (output : NetRef) → pin_fault nets consts (k.inputs ++ k.output ∷ []) [] words ≡ None
    → map (λ w. ref_of nets consts w.net) words ≡ map Some refs → all_wired words refs [] k.inputs ≡ Some inputs → wired words refs k.output ≡ Some output → pins_of nets consts k words ≡ Ok (inputs, output)
unfolding pins_of
pins_found nets consts k words refs inputs output good found some last =
    rw (good, sym (all_wired_is nets consts words refs [] k.inputs found), some, sym (wired_is nets consts words refs k.output found), last) refl
