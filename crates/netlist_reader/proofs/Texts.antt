-- The text of a netlist, piece by piece.
use Rattle.std.proofs.Common.{◌≡◌, ℕ, ◌+◌, ◌<◌, ◌≤◌, zero, suc, List, [], ◌∷◌, ◌++◌, length, drop, get_or, Option, Some, refl, sym, ap, subst, ◌∙◌, arith, slice_get, append_assoc, All}
use Rattle.std.proofs.lemmas.Option.{slice_get-get_or, get_or_from_slice_get, slice_get_within}
use Rattle.std.proofs.lemmas.List.{drop_all}
use Rattle.cell_arcs.specs.declared.cells.Cell.{Cell}
use Rattle.cell_arcs.specs.declared.cells.CellArc.{CellArc}
use Rattle.netlist_model.specs.EventNames.{name_at}
use Rattle.netlist_model.specs.Circuit.{Circuit}
use Rattle.netlist_model.specs.Sound.{Fits, IsInstance, IsNetlist, IsOfLibrary, IsPin}
use Rattle.netlist_model.specs.declared.parts.Delay.{Delay}
use Rattle.netlist_model.specs.declared.parts.Instance.{Instance}
use Rattle.netlist_model.specs.declared.parts.NetRef.{NetRef}
use Rattle.cyc_text.specs.Written.{ended, line_text, lines_text}
use Rattle.cyc_text.proofs.WrittenLemmas.{drop_at_place, lines_text-append, nothing_written, one_written}
use Rattle.netlist_reader.specs.Canonical.{pin_name, pin_names, inst_line, inst_line_of, arc_lines, delay_line, delay_lines, delay_lines_of}

-- the name that stands at a place
pub name_is : (names : List (List ℕ)) (at : ℕ) (name : List ℕ) → slice_get names at ≡ Some name → name_at names at ≡ name
name_is names at name h = rw h refl

-- the pin behind the inputs is the output
pub output_is : (inputs : List (List ℕ)) (output : List ℕ) (at : ℕ) → length inputs ≤ at → at < length inputs + 1 → slice_get (inputs ++ output ∷ []) at ≡ Some output
output_is [] output zero low high = refl
output_is [] output (suc at) low high = absurd (omega arith)
output_is (x ∷ xs) output zero low high = absurd (omega arith)
output_is (x ∷ xs) output (suc at) low high = output_is xs output at (omega arith) (omega arith)

-- the pin at the place of an input is that input
pub input_is : (inputs : List (List ℕ)) (output pin : List ℕ) (at : ℕ) → slice_get inputs at ≡ Some pin → slice_get (inputs ++ output ∷ []) at ≡ Some pin
input_is [] output pin at h = cc
input_is (x ∷ xs) output pin zero h = h
input_is (x ∷ xs) output pin (suc at) h = input_is xs output pin at h

owns-cons : (inst : List ℕ) (inputs : List (List ℕ)) (arc : CellArc) (own : Option Delay) (arcs : List CellArc) (delays : List (Option Delay))
    → delay_lines_of inst inputs (arc ∷ arcs) (own ∷ delays) ≡ arc_lines inst inputs arc own ++ delay_lines_of inst inputs arcs delays
unfolding delay_lines_of
owns-cons inst inputs arc own arcs delays = refl

input_back : (inputs : List (List ℕ)) (output : List ℕ) (at : ℕ) → at < length inputs → slice_get (inputs ++ output ∷ []) at ≡ slice_get inputs at
input_back [] output at h = absurd (omega arith)
input_back (x ∷ xs) output zero h = refl
input_back (x ∷ xs) output (suc at) h = input_back xs output at (omega arith)

-- the line of an arc that has delays of its own is written
pub own_line : (inst : List ℕ) (inputs : List (List ℕ)) (output : List ℕ) (arc : CellArc) (own : Option Delay) (d : Delay) (pin old new : List ℕ) → own ≡ Some d → arc.from < length inputs
    → slice_get (inputs ++ output ∷ []) arc.from ≡ Some pin → new ≡ old ++ line_text (delay_line inst pin d) → new ≡ old ++ lines_text (arc_lines inst inputs arc own)
own_line inst inputs output arc own d pin old new is low at put =
    let name = name_is inputs arc.from pin (sym (input_back inputs output arc.from low) ∙ at) in
    rw (is, name) (one_written (delay_line inst pin d) old new put)

-- the line of one more arc is written, where it has delays of its own
pub own_written : (inst : List ℕ) (inputs : List (List ℕ)) (arcs : List CellArc) (delays : List (Option Delay)) (at : ℕ) (arc : CellArc) (own : Option Delay) (old new whole : List ℕ)
    → slice_get arcs at ≡ Some arc → slice_get delays at ≡ Some own → new ≡ old ++ lines_text (arc_lines inst inputs arc own)
    → old ++ lines_text (delay_lines_of inst inputs (drop at arcs) (drop at delays)) ≡ whole
    → new ++ lines_text (delay_lines_of inst inputs (drop (at + 1) arcs) (drop (at + 1) delays)) ≡ whole
own_written inst inputs arcs delays at arc own old new whole is has put so_far =
    let rest = delay_lines_of inst inputs (drop (at + 1) arcs) (drop (at + 1) delays) in
    let opened : delay_lines_of inst inputs (drop at arcs) (drop at delays) ≡ arc_lines inst inputs arc own ++ rest =
    rw (drop_at_place arcs at arc is, drop_at_place delays at own has) (owns-cons inst inputs arc own (drop (at + 1) arcs) (drop (at + 1) delays)) in
    rw put (append_assoc old (lines_text (arc_lines inst inputs arc own)) (lines_text rest)
    ∙ ap (λ (ys : List ℕ). old ++ ys) (sym (lines_text-append (arc_lines inst inputs arc own) rest))
    ∙ ap (λ (ls : List (List (List ℕ))). old ++ lines_text ls) (sym opened)
    ∙ so_far)

-- the same, where the lists are lent
pub own_put : (inst name : List ℕ) (inputs : List (List ℕ)) (arcs lent : List CellArc) (delays owns : List (Option Delay)) (at : ℕ) (a : CellArc) (o : Option Delay) (old new whole : List ℕ)
    → name ≡ inst → lent ≡ arcs → owns ≡ delays → at < length lent → at < length owns
    → new ≡ old ++ lines_text (arc_lines name inputs (get_or lent at a) (get_or owns at o))
    → old ++ lines_text (delay_lines_of inst inputs (drop at arcs) (drop at delays)) ≡ whole
    → new ++ lines_text (delay_lines_of inst inputs (drop (at + 1) arcs) (drop (at + 1) delays)) ≡ whole
own_put inst name inputs arcs lent delays owns at a o old new whole named same others low also put so_far =
    own_written inst inputs arcs delays at (get_or lent at a) (get_or owns at o) old new whole
    (ap (λ (xs : List CellArc). slice_get xs at) (sym same) ∙ slice_get-get_or lent at a low)
    (ap (λ (xs : List (Option Delay)). slice_get xs at) (sym others) ∙ slice_get-get_or owns at o also)
    (put ∙ ap (λ (n : List ℕ). old ++ lines_text (arc_lines n inputs (get_or lent at a) (get_or owns at o))) named) so_far

pub all_owns_written : (inst : List ℕ) (inputs : List (List ℕ)) (arcs : List CellArc) (delays : List (Option Delay)) (at : ℕ) (text whole : List ℕ) → length arcs ≤ at
    → text ++ lines_text (delay_lines_of inst inputs (drop at arcs) (drop at delays)) ≡ whole → text ≡ whole
unfolding delay_lines_of
all_owns_written inst inputs arcs delays at text whole past so_far =
    let none : delay_lines_of inst inputs (drop at arcs) (drop at delays) ≡ [] = rw (drop_all at arcs past) refl in
    nothing_written text ∙ ap (λ (ls : List (List (List ℕ))). text ++ lines_text ls) (sym none) ∙ so_far

-- the lines of an instance whose cell is known
pub delay_lines_is : (library : List Cell) (i : Instance) (k : Cell) (old new : List ℕ) → slice_get library i.cell ≡ Some k
    → new ≡ old ++ lines_text (delay_lines_of i.name k.inputs k.arcs i.delays) → new ≡ old ++ lines_text (delay_lines library i)
delay_lines_is library i k old new is put = rw is put

pub inst_line_is : (library : List Cell) (c : Circuit) (i : Instance) (k : Cell) (old new : List ℕ) → slice_get library i.cell ≡ Some k
    → new ≡ old ++ line_text (inst_line_of c i k) → new ≡ old ++ line_text (inst_line library c i)
inst_line_is library c i k old new is put = rw is put

-- one more pin is written
pub pin_written : (nets consts pins : List (List ℕ)) (refs : List NetRef) (at : ℕ) (pin : List ℕ) (r : NetRef) (old new whole : List ℕ)
    → slice_get pins at ≡ Some pin → slice_get refs at ≡ Some r → new ≡ old ++ 32 ∷ pin_name nets consts pin r
    → old ++ ended (pin_names nets consts (drop at pins) (drop at refs)) ≡ whole
    → new ++ ended (pin_names nets consts (drop (at + 1) pins) (drop (at + 1) refs)) ≡ whole
pin_written nets consts pins refs at pin r old new whole is has put so_far =
    let rest = pin_names nets consts (drop (at + 1) pins) (drop (at + 1) refs) in
    let opened : pin_names nets consts (drop at pins) (drop at refs) ≡ pin_name nets consts pin r ∷ rest =
    rw (drop_at_place pins at pin is, drop_at_place refs at r has) refl in
    rw put (append_assoc old (32 ∷ pin_name nets consts pin r) (ended rest)
    ∙ ap (λ (ws : List (List ℕ)). old ++ ended ws) (sym opened)
    ∙ so_far)

-- what a pin of an instance is on stands in the netlist
pub pins_stand : (c : Circuit) (at : ℕ) (i : Instance) → IsNetlist c → slice_get c.insts at ≡ Some i → All (IsPin (length c.nets) (length c.consts)) i.pins
pins_stand c at i sound is =
    let whole : IsInstance (length c.nets) (length c.consts) i = subst (IsInstance (length c.nets) (length c.consts)) (get_or_from_slice_get c.insts at i i is) (sound.insts at i (slice_get_within c.insts at i is)) in
    whole.pins

-- an instance of a netlist that fits a library is of a cell of it
pub of_library : (library : List Cell) (insts : List Instance) (at : ℕ) (i : Instance) → Fits library insts → slice_get insts at ≡ Some i → IsOfLibrary library i
of_library library insts at i fits is = subst (IsOfLibrary library) (get_or_from_slice_get insts at i i is) (fits at i (slice_get_within insts at i is))
