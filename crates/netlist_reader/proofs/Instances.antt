-- The instances of a netlist are read back, without delays of their own.
use Rattle.std.proofs.Common.{◌≡◌, ℕ, ◌+◌, zero, suc, List, [], ◌∷◌, ◌++◌, length, map, Bool, true, nat_cmp, Option, Some, None, option_map, position, Ok, refl, sym, ap, subst, ◌∙◌, arith, All, slice_get}
use Rattle.std.specs.Cmp.{nat_eq_equiv}
use Rattle.std.specs.Cmp.Lexicographic.{slice_cmp}
use Rattle.std.specs.List.{IsDistinct}
use Rattle.std.specs.Ordering.{eq_by_cmp}
use Rattle.std.specs.Str.{bytes_eq}
use Rattle.std.proofs.lemmas.List.{append-nil, length-append, length_push, map-append, get_or_append_left}
use Rattle.std.proofs.lemmas.List.Elements.{All-tail}
use Rattle.std.proofs.lemmas.Map.Keys.{IsDistinct-from_sorted}
use Rattle.std.proofs.lemmas.Map.Text.{is_eq-slice_cmp}
use Rattle.std.proofs.lemmas.Option.{slice_get-map, slice_get_within, get_or_from_slice_get}
use Rattle.cyc_text.specs.Name.{is_name}
use Rattle.cell_arcs.specs.IsLibrary.{IsLibrary, IsCell, AscendByName}
use Rattle.cell_arcs.specs.declared.cells.Cell.{Cell}
use Rattle.netlist_model.specs.Circuit.{Circuit, last_of, is_net, drives, driver_of, inst_of}
use Rattle.netlist_model.specs.Sound.{IsPin, HasOutput, IsInstance, IsNetlist, FitsCell, IsOfLibrary, Fits}
use Rattle.netlist_model.specs.Statements.{add_inst, add_inst_of, output_fault, pin_fault, wires_of, wire_of}
use Rattle.netlist_model.specs.declared.edits.Edit.TheVariants.{Inst}
use Rattle.netlist_model.specs.declared.parts.Delay.{Delay}
use Rattle.netlist_model.specs.declared.parts.Instance.{Instance}
use Rattle.netlist_model.specs.declared.parts.NetRef.{NetRef}
use Rattle.netlist_model.specs.declared.parts.NetRef.TheVariants.{Net, Const}
use Rattle.netlist_model.specs.declared.parts.PinNet.{PinNet}
use Rattle.netlist_reader.specs.Canonical.{ref_name, inst_line, inst_line_of}
use Rattle.netlist_reader.specs.NetlistFiles.{stated}
use Rattle.netlist_reader.proofs.Bytes.{EachSolid, name_solid}
use Rattle.netlist_reader.proofs.Leads.{IsStep, Leads}
use Rattle.netlist_reader.proofs.Lists.{position_none, none_before, get_middle, place_is, one_more, list_any-map, position-map}
use Rattle.netlist_reader.proofs.Pins.{named_pins, inst_said, pins_known, pins_of-named, named-append, pins_fit, wire_known, wires_known, pins_solid}
use Rattle.netlist_reader.proofs.Sections.{parts_of, all_at, new_named}

-- what holds of each item holds of the one at a place
pub all_get : {A : Type 0} (P : A → Type 0) (xs : List A) (at : ℕ) (x : A) → All P xs → slice_get xs at ≡ Some x → P x
all_get P xs at x all is = subst P (get_or_from_slice_get xs at x x is) (all at x (slice_get_within xs at x is))

-- the cell of a name
names_differ : (library : List Cell) → AscendByName library → IsDistinct bytes_eq (map (λ k. k.name) library)
names_differ library ascend =
    let same : eq_by_cmp (slice_cmp nat_cmp) ≡ bytes_eq = λ i a b. is_eq-slice_cmp a b i in
    subst (λ (e : List ℕ → List ℕ → Bool). IsDistinct e (map (λ k. k.name) library)) same (IsDistinct-from_sorted (slice_cmp nat_cmp) (map (λ k. k.name) library) ascend)

pub cell_found : (library : List Cell) (at : ℕ) (k : Cell) → IsLibrary library → slice_get library at ≡ Some k → position (λ x. bytes_eq k.name x.name) library ≡ Some at
cell_found library at k sound is =
    sym (position-map (λ (x : Cell). x.name) (bytes_eq k.name) library)
    ∙ place_is (map (λ x. x.name) library) at k.name (names_differ library sound.ascend) (slice_get-map (λ (x : Cell). x.name) library at ∙ ap (option_map (λ (x : Cell). x.name)) is)

-- an instance without delays of its own
abbrev pub bare : Instance → Instance
bare i = record i { delays = map (λ _. None) i.delays }

none_each : {A B : Type 0} (xs : List A) (ys : List B) → length xs ≡ length ys → map {B = Option Delay} (λ _. None) xs ≡ map (λ _. None) ys
none_each [] [] same = refl
none_each [] (y ∷ ys) same = absurd (omega arith)
none_each (x ∷ xs) [] same = absurd (omega arith)
none_each (x ∷ xs) (y ∷ ys) same = ap (λ (ds : List (Option Delay)). None ∷ ds) (none_each xs ys (omega arith))

-- the last of a list that is not empty
pub record EndsIn {A : Type 0} (xs : List A) (n : ℕ) : Type 0 where
  pub front : List A
  pub last : A
  pub parts : front ++ last ∷ [] ≡ xs
  pub counted : length front ≡ n

ends_in : {A : Type 0} (xs : List A) (n : ℕ) → length xs ≡ n + 1 → EndsIn xs n
ends_in [] n same = absurd (omega arith)
ends_in (x ∷ []) n same = record { front = []; last = x; parts = refl; counted = omega arith }
ends_in (x ∷ y ∷ ys) zero same = absurd (omega arith)
ends_in (x ∷ y ∷ ys) (suc n) same =
    let rest = ends_in (y ∷ ys) n (omega arith) in
    record { front = x ∷ rest.front; last = rest.last; parts = ap (λ (zs : List _). x ∷ zs) rest.parts; counted = ap suc rest.counted }

last_push : {A : Type 0} (xs : List A) (x : A) → last_of (xs ++ x ∷ []) ≡ Some x
last_push [] x = refl
last_push (y ∷ ys) x = rw (last_push ys x) refl

-- no earlier instance drives the net of the output
output_free : (whole done : List Instance) (i : Instance) (more : List Instance) (out : NetRef) → done ++ i ∷ more ≡ whole
    → ((k n : ℕ) (j : Instance) → slice_get whole k ≡ Some j → drives n j ≡ true → driver_of whole n ≡ Some k)
    → last_of i.pins ≡ Some out → HasOutput (Some out) → output_fault (map bare done) out ≡ None
output_free whole done i more (Const k) e driver last has = absurd has
output_free whole done i more (Net n) e driver last has =
    let here : slice_get whole (length done) ≡ Some i = ap (λ (xs : List Instance). slice_get xs (length done)) (sym e) ∙ get_middle done i more in
    let drives_it : drives n i ≡ true = ap (is_net n) last ∙ nat_eq_equiv.refl n in
    let first : position (drives n) (done ++ i ∷ more) ≡ Some (length done) = ap (position (drives n)) e ∙ driver (length done) n i here drives_it in
    let free : driver_of (map bare done) n ≡ None = position-map bare (drives n) done ∙ position_none (drives n) done (none_before (drives n) done i more first) in
    rw free refl

-- the instance that the words make, where none of them is refused
made_by : (c : Circuit) (insts : List Instance) (i : Instance) (k : Cell) (words : List PinNet) (front : List NetRef) (last : NetRef) → pin_fault c.nets c.consts (k.inputs ++ k.output ∷ []) [] words ≡ None
    → wires_of c.nets c.consts words [] k.inputs ≡ Some front → wire_of c.nets c.consts words k.output ≡ Some last → output_fault insts last ≡ None
    → front ++ last ∷ [] ≡ i.pins → map {B = Option Delay} (λ _. None) k.arcs ≡ map (λ _. None) i.delays
    → add_inst_of (parts_of c.nets c.consts insts [] [] None) i.name i.cell k words ≡ Ok (parts_of c.nets c.consts (insts ++ bare i ∷ []) [] [] None)
unfolding add_inst_of
made_by c insts i k words front last no_fault inputs output free pins delays = rw (no_fault, inputs, output, free, pins, delays) refl

front_of : {A : Type 0} (P : A → Type 0) (xs : List A) (x : A) → All P (xs ++ x ∷ []) → All P xs
front_of P xs x all = λ j d below. subst P (get_or_append_left xs (x ∷ []) d j below) (all j d (omega (arith, length-append xs (x ∷ []))))

back_of : {A : Type 0} (P : A → Type 0) (xs : List A) (x : A) → All P (xs ++ x ∷ []) → All P (x ∷ [])
back_of P [] x all = all
back_of P (y ∷ ys) x all = back_of P ys x (All-tail P y (ys ++ x ∷ []) all)

-- the instance that the line makes
inst_made : (c : Circuit) (insts : List Instance) (i : Instance) (k : Cell) → IsNetlist c → IsCell k → FitsCell k i → All (IsPin (length c.nets) (length c.consts)) i.pins
    → ((out : NetRef) → last_of i.pins ≡ Some out → output_fault insts out ≡ None)
    → add_inst_of (parts_of c.nets c.consts insts [] [] None) i.name i.cell k (named_pins c.nets c.consts (k.inputs ++ k.output ∷ []) i.pins) ≡ Ok (parts_of c.nets c.consts (insts ++ bare i ∷ []) [] [] None)
inst_made c insts i k s cell fit stand free =
    let r = ends_in i.pins (length k.inputs) fit.pins in
    let pins = k.inputs ++ k.output ∷ [] in
    let words = named_pins c.nets c.consts pins i.pins in
    let last : PinNet = record { pin = k.output; net = ref_name c.nets c.consts r.last } in
    let front = named_pins c.nets c.consts k.inputs r.front in
    let same : length pins ≡ length i.pins = length_push k.inputs k.output ∙ sym fit.pins in
    let split : front ++ last ∷ [] ≡ words =
    sym (named-append c.nets c.consts k.inputs (k.output ∷ []) r.front (r.last ∷ []) (sym r.counted)) ∙ ap (named_pins c.nets c.consts pins) r.parts in
    let named : map (λ w. w.pin) words ≡ pins = pins_of-named c.nets c.consts pins i.pins same in
    let differ : IsDistinct bytes_eq (map (λ w. w.pin) words) = subst (IsDistinct bytes_eq) (sym named) cell.distinct in
    let known = pins_known c pins i.pins s stand same in
    let both = subst (All (IsPin (length c.nets) (length c.consts))) (sym r.parts) stand in
    let no_fault : pin_fault c.nets c.consts pins [] words ≡ None =
    ap (λ (ps : List (List ℕ)). pin_fault c.nets c.consts ps [] words) (sym named) ∙ pins_fit c.nets c.consts words [] words i.pins refl differ known in
    let inputs : wires_of c.nets c.consts words [] k.inputs ≡ Some r.front =
    ap (wires_of c.nets c.consts words []) (sym (pins_of-named c.nets c.consts k.inputs r.front (sym r.counted)))
    ∙ wires_known c.nets c.consts words [] front last [] r.front split differ (pins_known c k.inputs r.front s (front_of (IsPin (length c.nets) (length c.consts)) r.front r.last both) (sym r.counted)) in
    let output : wire_of c.nets c.consts words k.output ≡ Some r.last =
    wire_known c.nets c.consts words front last [] r.last split differ (pins_known c (k.output ∷ []) (r.last ∷ []) s (back_of (IsPin (length c.nets) (length c.consts)) r.front r.last both) refl).0 in
    let ends : last_of i.pins ≡ Some r.last = ap last_of (sym r.parts) ∙ last_push r.front r.last in
    made_by c insts i k words r.front r.last no_fault inputs output (free r.last ends) r.parts (none_each k.arcs i.delays (sym fit.delays))

inst_added : (library : List Cell) (c : Circuit) (insts : List Instance) (i : Instance) (k : Cell) (words : List PinNet) (d : Circuit) → is_name i.name ≡ true → inst_of insts i.name ≡ None
    → position (λ x. bytes_eq k.name x.name) library ≡ Some i.cell → slice_get library i.cell ≡ Some k
    → add_inst_of (parts_of c.nets c.consts insts [] [] None) i.name i.cell k words ≡ Ok d
    → stated library (parts_of c.nets c.consts insts [] [] None) (Inst (record { name = i.name; cell = k.name; pins = words })) ≡ Ok d
unfolding add_inst
inst_added library c insts i k words d named fresh found at made = rw (named, fresh, found, at, made) refl

inst_solid : (c : Circuit) (i : Instance) (k : Cell) → IsNetlist c → IsCell k → is_name i.name ≡ true → All (IsPin (length c.nets) (length c.consts)) i.pins → EachSolid (inst_line_of c i k)
unfolding inst_line_of
inst_solid c i k s cell named stand = (
  record { some = omega arith; high = (omega arith, (omega arith, (omega arith, (omega arith, tt)))) },
  (
    name_solid i.name named,
    (
      name_solid k.name cell.named,
      pins_solid c (k.inputs ++ k.output ∷ []) i.pins s cell.names stand,
    ),
  ),
)

inst_step : (library : List Cell) (c : Circuit) (done : List Instance) (i : Instance) (more : List Instance) (k : Cell) → IsLibrary library → IsNetlist c → done ++ i ∷ more ≡ c.insts → slice_get library i.cell ≡ Some k → FitsCell k i
    → IsStep library (inst_line_of c i k) (parts_of c.nets c.consts (map bare done) [] [] None) (parts_of c.nets c.consts (map bare done ++ bare i ∷ []) [] [] None)
inst_step library c done i more k sound s e at fit =
    let is = all_at (IsInstance (length c.nets) (length c.consts)) done i more c.insts e s.insts in
    let cell = all_get IsCell library i.cell k sound.each at in
    let fresh : inst_of (map bare done) i.name ≡ None =
    position_none (λ (j : Instance). bytes_eq i.name j.name) (map bare done)
    (list_any-map bare (λ (j : Instance). bytes_eq i.name j.name) done ∙ new_named (λ (j : Instance). j.name) done i more c.insts e s.insts_differ) in
    let made = inst_made c (map bare done) i k s cell fit is.pins (λ out last. output_free c.insts done i more out e s.one_driver last (subst HasOutput last is.output)) in
    record {
      edit = Inst (record { name = i.name; cell = k.name; pins = named_pins c.nets c.consts (k.inputs ++ k.output ∷ []) i.pins });
      says = inst_said c i k cell.names;
      allowed = refl;
      does = inst_added library c (map bare done) i k (named_pins c.nets c.consts (k.inputs ++ k.output ∷ []) i.pins) _ is.named fresh (cell_found library i.cell k sound at) at made;
      solid = inst_solid c i k s cell is.named is.pins;
    }

pub insts_lead : (library : List Cell) (c : Circuit) (done more : List Instance) → IsLibrary library → IsNetlist c → Fits library c.insts → done ++ more ≡ c.insts
    → Leads library (map (inst_line library c) more) (parts_of c.nets c.consts (map bare done) [] [] None) (parts_of c.nets c.consts (map bare c.insts) [] [] None)
insts_lead library c done [] sound s fits e = ap (λ (is : List Instance). parts_of c.nets c.consts (map bare is) [] [] None) (sym (append-nil done) ∙ e)
insts_lead library c done (i ∷ more) sound s fits e =
    let of = all_at (IsOfLibrary library) done i more c.insts e fits in
    let line : inst_line library c i ≡ inst_line_of c i of.0 = rw of.1 refl in
    let next : map bare (done ++ i ∷ []) ≡ map bare done ++ bare i ∷ [] = map-append bare done (i ∷ []) in (
      parts_of c.nets c.consts (map bare done ++ bare i ∷ []) [] [] None,
      subst (λ (ws : List (List ℕ)). IsStep library ws (parts_of c.nets c.consts (map bare done) [] [] None) (parts_of c.nets c.consts (map bare done ++ bare i ∷ []) [] [] None)) (sym line) (inst_step library c done i more of.0 sound s e of.1 of.2),
      subst (λ (is : List Instance). Leads library (map (inst_line library c) more) (parts_of c.nets c.consts is [] [] None) (parts_of c.nets c.consts (map bare c.insts) [] [] None)) next
          (insts_lead library c (done ++ i ∷ []) more sound s fits (one_more done i more c.insts e)),
    )
