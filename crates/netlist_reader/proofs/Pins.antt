-- The pins of an instance are read back.
use Rattle.std.proofs.Common.{◌≡◌, ℕ, ◌+◌, List, [], ◌∷◌, ◌++◌, length, map, drop, Bool, true, false, Some, None, find, refl, sym, ap, subst, ◌∙◌, arith, All, append_assoc}
use Rattle.std.specs.List.{IsDistinct, list_any, list_all}
use Rattle.std.specs.Str.{bytes_eq}
use Rattle.std.proofs.lemmas.Bool.{or_from, or_left, or_right, and_parts}
use Rattle.std.proofs.lemmas.Bool.Decides.{nat_tests}
use Rattle.std.proofs.lemmas.List.{append-nil, length_push, length-append, take_at, drop_at}
use Rattle.std.proofs.lemmas.List.Elements.{All-head, All-tail}
use Rattle.cyc_text.specs.Name.{is_name, is_name_byte}
use Rattle.cell_arcs.specs.declared.cells.Cell.{Cell}
use Rattle.netlist_model.specs.EventNames.{name_at}
use Rattle.netlist_model.specs.Circuit.{Circuit, ref_of}
use Rattle.netlist_model.specs.Sound.{AreNames, IsPin, IsNetlist}
use Rattle.netlist_model.specs.Statements.{word_fault, pin_fault, wire_of, wires_of}
use Rattle.netlist_model.specs.declared.edits.Edit.TheVariants.{Inst}
use Rattle.netlist_model.specs.declared.parts.Instance.{Instance}
use Rattle.netlist_model.specs.declared.parts.NetRef.{NetRef}
use Rattle.netlist_model.specs.declared.parts.NetRef.TheVariants.{Net, Const}
use Rattle.netlist_model.specs.declared.parts.PinNet.{PinNet}
use Rattle.netlist_reader.specs.Canonical.{ref_name, pin_names, inst_line_of}
use Rattle.netlist_reader.specs.EditLines.{is_equals, pin_word, pin_words, edit_of}
use Rattle.netlist_reader.proofs.Bytes.{IsSolid, EachSolid, high-append, name_solid}
use Rattle.netlist_reader.proofs.Lists.{around, same_bytes, position_none, position_at, find_at, place_is, one_more, list_any-map}
use Rattle.netlist_reader.proofs.Sections.{foreign, name_stands, name_named, new_named}

-- a pin word: the first '=' parts it
name_byte_other : (b : ℕ) → is_name_byte b ≡ true → is_equals b ≡ false
name_byte_other b h = grind (arith, nat_tests)

bytes_other : (xs : List ℕ) → list_all is_name_byte xs ≡ true → list_any is_equals xs ≡ false
bytes_other [] h = refl
bytes_other (x ∷ xs) h =
    let parts = and_parts (is_name_byte x) (list_all is_name_byte xs) h in
    or_from (is_equals x) (list_any is_equals xs) (name_byte_other x parts.0) (bytes_other xs parts.1)

no_equals : (name : List ℕ) → is_name name ≡ true → list_any is_equals name ≡ false
unfolding is_name
no_equals name h = bytes_other name (and_parts _ (list_all is_name_byte name) h).1

drop_past : (xs : List ℕ) (b : ℕ) (ys : List ℕ) → drop (length xs + 1) (xs ++ b ∷ ys) ≡ ys
drop_past xs b ys = ap (drop (length xs + 1)) (sym (append_assoc xs (b ∷ []) ys)) ∙ drop_at (xs ++ b ∷ []) ys (length xs + 1) (length_push xs b)

pin_read : (pin net : List ℕ) → is_name pin ≡ true → pin_word (pin ++ 61 ∷ net) ≡ Some (record { pin = pin; net = net })
unfolding pin_word
pin_read pin net named = rw (position_at is_equals pin 61 net (no_equals pin named) refl, take_at pin (61 ∷ net) (length pin) refl, drop_past pin 61 net) refl

-- the pins by words
abbrev pub named_pins : List (List ℕ) → List (List ℕ) → List (List ℕ) → List NetRef → List PinNet
named_pins nets consts [] refs = []
named_pins nets consts (pin ∷ pins) [] = []
named_pins nets consts (pin ∷ pins) (r ∷ refs) = record { pin = pin; net = ref_name nets consts r } ∷ named_pins nets consts pins refs

pins_read : (nets consts : List (List ℕ)) (before : List PinNet) (pins : List (List ℕ)) (refs : List NetRef) → AreNames pins → pin_words before (pin_names nets consts pins refs) ≡ Some (before ++ named_pins nets consts pins refs)
unfolding pin_words
pins_read nets consts before [] refs named = ap Some (sym (append-nil before))
pins_read nets consts before (pin ∷ pins) [] named = ap Some (sym (append-nil before))
pins_read nets consts before (pin ∷ pins) (r ∷ refs) named =
    let w : PinNet = record { pin = pin; net = ref_name nets consts r } in
    rw (pin_read pin (ref_name nets consts r) (All-head (λ (n : List ℕ). is_name n ≡ true) pin pins named))
    (pins_read nets consts (before ++ w ∷ []) pins refs (All-tail (λ (n : List ℕ). is_name n ≡ true) pin pins named)
    ∙ ap Some (append_assoc before (w ∷ []) (named_pins nets consts pins refs)))

pub inst_said : (c : Circuit) (i : Instance) (k : Cell) → AreNames (k.inputs ++ k.output ∷ [])
    → edit_of (inst_line_of c i k) ≡ Some (Inst (record { name = i.name; cell = k.name; pins = named_pins c.nets c.consts (k.inputs ++ k.output ∷ []) i.pins }))
unfolding edit_of inst_line_of
inst_said c i k named = rw (pins_read c.nets c.consts [] (k.inputs ++ k.output ∷ []) i.pins named) refl

-- what a pin is on is known by its name
pub ref_known : (c : Circuit) (r : NetRef) → IsNetlist c → IsPin (length c.nets) (length c.consts) r → ref_of c.nets c.consts (ref_name c.nets c.consts r) ≡ Some r
ref_known c (Net n) s low = rw (place_is c.nets n (name_at c.nets n) s.nets_differ (name_stands c.nets n low)) refl
ref_known c (Const k) s low =
    let name = name_at c.consts k in
    let stands = name_stands c.consts k low in
    let r = around c.consts k name stands in
    let other = foreign c.nets r.done name r.more (subst (λ (ns : List (List ℕ)). All (λ n. list_any (bytes_eq n) ns ≡ false) c.nets) (sym r.parts) s.no_net_is_const) in
    rw (position_none (bytes_eq name) c.nets other, place_is c.consts k name s.consts_differ stands) refl

-- each word's net is what the pin is on
abbrev pub EachKnown : List (List ℕ) → List (List ℕ) → List PinNet → List NetRef → Type 0
EachKnown nets consts [] [] = Unit {0}
EachKnown nets consts [] (r ∷ refs) = ⊥
EachKnown nets consts (w ∷ ws) [] = ⊥
EachKnown nets consts (w ∷ ws) (r ∷ refs) = (ref_of nets consts w.net ≡ Some r) × EachKnown nets consts ws refs

pub pins_known : (c : Circuit) (pins : List (List ℕ)) (refs : List NetRef) → IsNetlist c → All (IsPin (length c.nets) (length c.consts)) refs → length pins ≡ length refs
    → EachKnown c.nets c.consts (named_pins c.nets c.consts pins refs) refs
pins_known c [] [] s stand same = tt
pins_known c [] (r ∷ refs) s stand same = absurd (omega arith)
pins_known c (p ∷ pins) [] s stand same = absurd (omega arith)
pins_known c (p ∷ pins) (r ∷ refs) s stand same = (
  ref_known c r s (All-head (IsPin (length c.nets) (length c.consts)) r refs stand),
  pins_known c pins refs s (All-tail (IsPin (length c.nets) (length c.consts)) r refs stand) (omega arith),
)

pub pins_of-named : (nets consts pins : List (List ℕ)) (refs : List NetRef) → length pins ≡ length refs → map (λ w. w.pin) (named_pins nets consts pins refs) ≡ pins
pins_of-named nets consts [] refs same = refl
pins_of-named nets consts (p ∷ pins) [] same = absurd (omega arith)
pins_of-named nets consts (p ∷ pins) (r ∷ refs) same = ap (λ (ps : List (List ℕ)). p ∷ ps) (pins_of-named nets consts pins refs (omega arith))

pub named-append : (nets consts pins more : List (List ℕ)) (refs others : List NetRef) → length pins ≡ length refs
    → named_pins nets consts (pins ++ more) (refs ++ others) ≡ named_pins nets consts pins refs ++ named_pins nets consts more others
named-append nets consts [] more [] others same = refl
named-append nets consts [] more (r ∷ refs) others same = absurd (omega arith)
named-append nets consts (p ∷ pins) more [] others same = absurd (omega arith)
named-append nets consts (p ∷ pins) more (r ∷ refs) others same =
    ap (λ (ws : List PinNet). record { pin = p; net = ref_name nets consts r } ∷ ws) (named-append nets consts pins more refs others (omega arith))

any_there : {A : Type 0} (p : A → Bool) (done : List A) (x : A) (more : List A) → p x ≡ true → list_any p (done ++ x ∷ more) ≡ true
any_there p [] x more h = or_left (p x) (list_any p more) h
any_there p (y ∷ ys) x more h = or_right (p y) (list_any p (ys ++ x ∷ more)) (any_there p ys x more h)

-- no pin word is refused
pub pins_fit : (nets consts : List (List ℕ)) (whole before words : List PinNet) (refs : List NetRef) → before ++ words ≡ whole → IsDistinct bytes_eq (map (λ w. w.pin) whole)
    → EachKnown nets consts words refs → pin_fault nets consts (map (λ w. w.pin) whole) before words ≡ None
unfolding pin_fault word_fault
pins_fit nets consts whole before [] refs e differ known = refl
pins_fit nets consts whole before (w ∷ ws) [] e differ known = absurd known
pins_fit nets consts whole before (w ∷ ws) (r ∷ refs) e differ known =
    let there : list_any (bytes_eq w.pin) (map (λ v. v.pin) whole) ≡ true =
    list_any-map (λ (v : PinNet). v.pin) (bytes_eq w.pin) whole
    ∙ ap (list_any (λ (v : PinNet). bytes_eq w.pin v.pin)) (sym e) ∙ any_there (λ (v : PinNet). bytes_eq w.pin v.pin) before w ws (same_bytes w.pin) in
    let fresh = new_named (λ (v : PinNet). v.pin) before w ws whole e differ in
    rw (there, fresh, known.0) (pins_fit nets consts whole (before ++ w ∷ []) ws refs (one_more before w ws whole e) differ known.1)

-- the word of a pin is found
pub wire_known : (nets consts : List (List ℕ)) (whole before : List PinNet) (w : PinNet) (more : List PinNet) (r : NetRef) → before ++ w ∷ more ≡ whole → IsDistinct bytes_eq (map (λ w. w.pin) whole)
    → ref_of nets consts w.net ≡ Some r → wire_of nets consts whole w.pin ≡ Some r
wire_known nets consts whole before w more r e differ known =
    let found : find (λ (v : PinNet). bytes_eq w.pin v.pin) whole ≡ Some w =
    ap (find (λ (v : PinNet). bytes_eq w.pin v.pin)) (sym e) ∙ find_at (λ (v : PinNet). bytes_eq w.pin v.pin) before w more (new_named (λ (v : PinNet). v.pin) before w more whole e differ) (same_bytes w.pin) in
    rw found known

-- the words of the inputs are found
pub wires_known : (nets consts : List (List ℕ)) (whole before words : List PinNet) (last : PinNet) (done refs : List NetRef) → before ++ (words ++ last ∷ []) ≡ whole
    → IsDistinct bytes_eq (map (λ w. w.pin) whole) → EachKnown nets consts words refs → wires_of nets consts whole done (map (λ w. w.pin) words) ≡ Some (done ++ refs)
unfolding wires_of
wires_known nets consts whole before [] last done [] e differ known = ap Some (sym (append-nil done))
wires_known nets consts whole before [] last done (r ∷ refs) e differ known = absurd known
wires_known nets consts whole before (w ∷ ws) last done [] e differ known = absurd known
wires_known nets consts whole before (w ∷ ws) last done (r ∷ refs) e differ known =
    rw (wire_known nets consts whole before w (ws ++ last ∷ []) r e differ known.0)
    (wires_known nets consts whole (before ++ w ∷ []) ws last (done ++ r ∷ []) refs (one_more before w (ws ++ last ∷ []) whole e) differ known.1
    ∙ ap Some (append_assoc done (r ∷ []) refs))

-- the words of an instance's line
ref_solid : (c : Circuit) (r : NetRef) → IsNetlist c → IsPin (length c.nets) (length c.consts) r → IsSolid (ref_name c.nets c.consts r)
ref_solid c (Net n) s low = name_solid (name_at c.nets n) (name_named c.nets n s.net_names low)
ref_solid c (Const k) s low = name_solid (name_at c.consts k) (name_named c.consts k s.const_names low)

pub pins_solid : (c : Circuit) (pins : List (List ℕ)) (refs : List NetRef) → IsNetlist c → AreNames pins → All (IsPin (length c.nets) (length c.consts)) refs → EachSolid (pin_names c.nets c.consts pins refs)
pins_solid c [] refs s named stand = tt
pins_solid c (p ∷ pins) [] s named stand = tt
pins_solid c (p ∷ pins) (r ∷ refs) s named stand =
    let name = name_solid p (All-head (λ (n : List ℕ). is_name n ≡ true) p pins named) in
    let on = ref_solid c r s (All-head (IsPin (length c.nets) (length c.consts)) r refs stand) in (
      record {
        some = omega (arith, length-append p (61 ∷ ref_name c.nets c.consts r), name.some);
        high = high-append p (61 ∷ ref_name c.nets c.consts r) name.high (omega arith, on.high);
      },
      pins_solid c pins refs s (All-tail (λ (n : List ℕ). is_name n ≡ true) p pins named) (All-tail (IsPin (length c.nets) (length c.consts)) r refs stand),
    )
