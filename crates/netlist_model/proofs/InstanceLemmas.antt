-- Instances that are added or given delays of their own.
use Rattle.std.proofs.Common.{◌≡◌, ℕ, ◌<◌, ◌≤◌, ◌++◌, ◌∷◌, [], inl, inr, List, length, map, get_or, set, true, Option, Some, None, refl, sym, ap, subst, ◌∙◌, arith, All, slice_get}
use Rattle.std.specs.List.{IsDistinct}
use Rattle.std.specs.Str.{bytes_eq}
use Rattle.std.proofs.Math.Seq.{map-set_same}
use Rattle.std.proofs.lemmas.List.{length-set}
use Rattle.std.proofs.lemmas.List.Elements.{All-push, All-set, All-map}
use Rattle.std.proofs.lemmas.Option.{slice_get_within, get_or_from_slice_get}
use Rattle.cyc_text.specs.Name.{is_name}
use Rattle.cell_arcs.specs.declared.cells.Cell.{Cell}
use Rattle.cell_arcs.specs.declared.cells.CellArc.{CellArc}
use Rattle.netlist_model.specs.Circuit.{Circuit, last_of, drives, driver_of, is_net}
use Rattle.netlist_model.specs.Sound.{IsPin, IsInstance, IsOwnDelay, IsNetlist, IsOfLibrary, FitsCell, Fits}
use Rattle.netlist_model.specs.Statements.{cell_at, with_delay}
use Rattle.netlist_model.specs.declared.parts.Instance.{Instance}
use Rattle.netlist_model.specs.declared.parts.NetRef.{NetRef}
use Rattle.netlist_model.specs.declared.parts.NetRef.TheVariants.{Net}
use Rattle.netlist_model.proofs.BlockLemmas.{set_cases}
use Rattle.netlist_model.proofs.Soundness.{insts_set}
use Rattle.netlist_model.proofs.Tables.{position_set}

-- the last of a list with one more
pub last_push : {A : Type 0} (xs : List A) (x : A) → last_of (xs ++ x ∷ []) ≡ Some x
last_push [] x = refl
last_push (y ∷ ys) x = rw (last_push ys x) refl

pub instance_sound : (nets consts at z : ℕ) (name : List ℕ) (refs : List NetRef) (output : NetRef) (arcs : List CellArc) → is_name name ≡ true → All (IsPin nets consts) refs → IsPin nets consts output → output ≡ Net z
    → IsInstance nets consts (record { name = name; cell = at; pins = refs ++ output ∷ []; delays = map (λ _. None) arcs })
instance_sound nets consts at z name refs output arcs named pins pin is = record {
  named = named;
  pins = All-push (IsPin nets consts) refs output pins pin;
  output = rw (last_push refs output, is) tt;
  delays = All-map IsOwnDelay (λ _. None) arcs (λ k d h. tt);
}

pub fits_push : (library : List Cell) (insts : List Instance) (i : Instance) (k : Cell) → Fits library insts → slice_get library i.cell ≡ Some k → FitsCell k i → Fits library (insts ++ i ∷ [])
fits_push library insts i k fits at good = All-push (IsOfLibrary library) insts i fits (k, at, good)

-- an arc of the cell of an instance has a place among its delays
pub arc_within : (library : List Cell) (insts : List Instance) (at arc : ℕ) (i : Instance) (cell : Cell) → Fits library insts → slice_get insts at ≡ Some i → cell_at library insts at ≡ Some cell → arc < length cell.arcs → arc < length i.delays
arc_within library insts at arc i cell fits is kind low =
    let f = fits at i (slice_get_within insts at i is) in
    let e : get_or insts at i ≡ i = get_or_from_slice_get insts at i i is in
    let k : slice_get library i.cell ≡ Some f.0 = subst (λ (x : Instance). slice_get library x.cell ≡ Some f.0) e f.1 in
    let c : slice_get library i.cell ≡ Some cell = rw is at kind in
    let same : f.0 ≡ cell = cc in
    let d : length i.delays ≡ length f.0.arcs = subst (λ (x : Instance). length x.delays ≡ length f.0.arcs) e f.2.delays in
    let n : length f.0.arcs ≡ length cell.arcs = ap (λ (x : Cell). length x.arcs) same in
    omega arith

delayed : Instance → ℕ → ℕ → ℕ → Instance
delayed i arc rise fall = record i { delays = set i.delays arc (Some (record { rise = rise; fall = fall })) }

-- an instance of which the last pin is where it was
pub one_driver_set : (insts : List Instance) (at : ℕ) (i y : Instance) → slice_get insts at ≡ Some i → last_of y.pins ≡ last_of i.pins → ((k n : ℕ) (j : Instance) → slice_get insts k ≡ Some j → drives n j ≡ true → driver_of insts n ≡ Some k)
    → (k n : ℕ) (j : Instance) → slice_get (set insts at y) k ≡ Some j → drives n j ≡ true → driver_of (set insts at y) n ≡ Some k
one_driver_set insts at i y is same old k n j e d =
    let pins : last_of y.pins ≡ last_of (get_or insts at i).pins = same ∙ ap (λ (x : Instance). last_of x.pins) (sym (get_or_from_slice_get insts at i i is)) in
    position_set (drives n) insts at y i (ap (is_net n) pins)
    ∙ elim (set_cases insts at k y j e) [
      | inl h ↦ old at n i is (ap (is_net n) (sym same) ∙ ap (drives n) h.1 ∙ d) ∙ ap Some (sym h.0)
      | inr h ↦ old k n j h.1 d
    ]

-- an instance is given delays within the limit
pub delay_set : (c : Circuit) (at arc rise fall : ℕ) → IsNetlist c → rise ≤ 1000000 → fall ≤ 1000000 → IsNetlist (record c { insts = with_delay c.insts at arc rise fall })
delay_set c at arc rise fall s low high = by (slice_get c.insts at) refl
  where
    by : (o : Option Instance) → slice_get c.insts at ≡ o → IsNetlist (record c { insts = with_delay c.insts at arc rise fall })
    by None e = rw e s
    by (Some i) e =
        let within = slice_get_within c.insts at i e in
        let is : get_or c.insts at i ≡ i = get_or_from_slice_get c.insts at i i e in
        let old : IsInstance (length c.nets) (length c.consts) i = subst (IsInstance (length c.nets) (length c.consts)) is (s.insts at i within) in
        rw e (insts_set c (set c.insts at _) s
        (All-set (IsInstance (length c.nets) (length c.consts)) c.insts at _ (record { named = old.named; pins = old.pins; output = old.output; delays = All-set IsOwnDelay i.delays arc _ (low, high) old.delays }) s.insts)
        (subst (IsDistinct bytes_eq) (sym (map-set_same (λ (x : Instance). x.name) c.insts at _ i (ap (λ (x : Instance). x.name) (sym is)))) s.insts_differ)
        (one_driver_set c.insts at i _ e refl s.one_driver))

-- an instance with other delays fits as before
pub fits_delay : (library : List Cell) (insts : List Instance) (at arc rise fall : ℕ) → Fits library insts → Fits library (with_delay insts at arc rise fall)
fits_delay library insts at arc rise fall fits = by (slice_get insts at) refl
  where
    by : (o : Option Instance) → slice_get insts at ≡ o → Fits library (with_delay insts at arc rise fall)
    by None e = rw e fits
    by (Some i) e =
        let old : IsOfLibrary library i = subst (IsOfLibrary library) (get_or_from_slice_get insts at i i e) (fits at i (slice_get_within insts at i e)) in
        rw e (All-set (IsOfLibrary library) insts at _ (old.0, old.1, record { pins = old.2.pins; delays = length-set i.delays arc _ ∙ old.2.delays }) fits)

-- no instance fits any library
pub fits_nothing : (library : List Cell) (insts : List Instance) → insts ≡ [] → Fits library insts
fits_nothing library insts none = rw none (λ k d h. absurd (omega arith))
