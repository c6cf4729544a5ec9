-- What holds of every netlist holds once a pin is moved, or an instance is of another cell.
use Rattle.std.proofs.Common.{◌≡◌, ℕ, ◌+◌, ◌==◌, ◌&&◌, not, List, length, get_or, set, nat_eq, inl, inr, ◌⊎◌, Bool, true, false, Option, Some, None, slice_get, refl, sym, ap, subst, ◌∙◌, arith, if◌then◌else◌, ◌≢◌}
use Rattle.std.specs.Cmp.Lexicographic.{pointwise, as_long}
use Rattle.std.specs.List.{IsDistinct}
use Rattle.std.specs.Str.{bytes_eq}
use Rattle.std.proofs.Math.Seq.{map-set_same}
use Rattle.std.proofs.lemmas.Bool.Decides.{nat_tests}
use Rattle.std.proofs.lemmas.List.{length-set, length-map}
use Rattle.std.proofs.lemmas.List.Elements.{All-set, All-map}
use Rattle.std.proofs.lemmas.Option.{slice_get_within, get_or_from_slice_get}
use Rattle.cell_arcs.specs.declared.cells.Cell.{Cell}
use Rattle.netlist_model.specs.Circuit.{Circuit, drives, driver_of, last_of}
use Rattle.netlist_model.specs.Sound.{IsPin, IsInstance, IsNetlist, IsOwnDelay, HasOutput, IsOfLibrary, FitsCell, Fits}
use Rattle.netlist_model.specs.Statements.{cell_at, moved_output_fault, with_pin, with_cell, has_pins_of}
use Rattle.netlist_model.specs.declared.faults.StatementFault.TheVariants.{DriverTaken}
use Rattle.netlist_model.specs.declared.parts.Instance.{Instance}
use Rattle.netlist_model.specs.declared.parts.NetRef.{NetRef}
use Rattle.netlist_model.specs.declared.parts.NetRef.TheVariants.{Net, Const}
use Rattle.netlist_model.proofs.BlockLemmas.{set_cases}
use Rattle.netlist_model.proofs.Entries.{last_kept, last_set, position_here}
use Rattle.netlist_model.proofs.InstanceLemmas.{one_driver_set}
use Rattle.netlist_model.proofs.Soundness.{insts_set}
use Rattle.netlist_model.proofs.Tables.{position_set}

-- an instance in the list is one of the library, and of this cell
pub cell_fits : (library : List Cell) (insts : List Instance) (at : ℕ) (i : Instance) (cell : Cell) → Fits library insts → slice_get insts at ≡ Some i → cell_at library insts at ≡ Some cell → FitsCell cell i
cell_fits library insts at i cell fits is kind =
    let f : IsOfLibrary library i = subst (IsOfLibrary library) (get_or_from_slice_get insts at i i is) (fits at i (slice_get_within insts at i is)) in
    let c : slice_get library i.cell ≡ Some cell = rw is at kind in
    let same : f.0 ≡ cell = let g = f.1 in cc in
    subst (λ (k : Cell). FitsCell k i) same f.2

-- an output that may be moved here is on a net that no other instance drives
may_move : (insts : List Instance) (at : ℕ) (r : NetRef) → moved_output_fault insts at r ≡ None → (z : ℕ) × (r ≡ Net z) × ((driver_of insts z ≡ None) ⊎ (driver_of insts z ≡ Some at))
may_move insts at (Const k) h = cc
may_move insts at (Net n) h = by (driver_of insts n) refl h
  where
    Free : ℕ → Type 0
    Free z = (driver_of insts z ≡ None) ⊎ (driver_of insts z ≡ Some at)

    by : (o : Option ℕ) → driver_of insts n ≡ o → moved_output_fault insts at (Net n) ≡ None → (z : ℕ) × (Net n ≡ Net z) × ((driver_of insts z ≡ None) ⊎ (driver_of insts z ≡ Some at))
    by None e f = (n, refl, inl e)
    by (Some d) e f = same (d == at) refl (rw e at f)
      where
        same : (b : Bool) → (d == at) ≡ b → (if d == at then None else Some (DriverTaken (d + 1))) ≡ None → (z : ℕ) × (Net n ≡ Net z) × ((driver_of insts z ≡ None) ⊎ (driver_of insts z ≡ Some at))
        same true g k = let is : d ≡ at = grind (arith, nat_tests) in (n, refl, inr (e ∙ ap Some is))
        same false g k = let l : Some _ ≡ None = rw g at k in cc

-- the output of the instance at a place goes to a net that no other instance drives
one_driver_moved : (insts : List Instance) (at z : ℕ) (i y : Instance) → slice_get insts at ≡ Some i → last_of y.pins ≡ Some (Net z)
    → (driver_of insts z ≡ None) ⊎ (driver_of insts z ≡ Some at)
    → ((k n : ℕ) (j : Instance) → slice_get insts k ≡ Some j → drives n j ≡ true → driver_of insts n ≡ Some k)
    → (k n : ℕ) (j : Instance) → slice_get (set insts at y) k ≡ Some j → drives n j ≡ true → driver_of (set insts at y) n ≡ Some k
one_driver_moved insts at z i y is output free one k n j e d =
    elim (set_cases insts at k y j e) [
      | inl h ↦
          let dy : drives n y ≡ true = ap (drives n) h.1 ∙ d in
          let same : n ≡ z = let t : nat_eq n z ≡ true = rw output at dy in grind (arith, nat_tests) in
          position_here (drives n) insts at y (slice_get_within insts at i is) dy (subst (λ (m : ℕ). (driver_of insts m ≡ None) ⊎ (driver_of insts m ≡ Some at)) (sym same) free) ∙ ap Some (sym h.0)
      | inr h ↦
          let old = one k n j h.1 d in
          let other : n ≢ z = λ f. elsewhere (subst (λ (m : ℕ). driver_of insts m ≡ Some k) f old) h.0 free in
          let no : drives n y ≡ false = rw output (let t : nat_eq n z ≡ false = grind (arith, nat_tests) in t) in
          let was : drives n i ≡ false = by (drives n i) refl old h.0 in
          position_set (drives n) insts at y i (no ∙ sym (ap (drives n) (get_or_from_slice_get insts at i i is) ∙ was)) ∙ old
    ]
  where
    elsewhere : {A : Type 0} → driver_of insts z ≡ Some k → k ≢ at → (driver_of insts z ≡ None) ⊎ (driver_of insts z ≡ Some at) → A
    elsewhere a b (inl f) = cc
    elsewhere a b (inr f) = absurd (b (let g : k ≡ at = cc in g))

    by : (b : Bool) → drives n i ≡ b → driver_of insts n ≡ Some k → k ≢ at → drives n i ≡ false
    by false f a b = f
    by true f a b = let g = one at n i is f in absurd (b (let h : k ≡ at = cc in h))

output_of : (o : Option NetRef) (z : ℕ) → o ≡ Some (Net z) → HasOutput o
output_of o z e = subst HasOutput (sym e) tt

-- an input moves to a net or a constant, or an output to a net that no other instance drives
pub pin_moved : (library : List Cell) (c : Circuit) (at p : ℕ) (k : Cell) (r : NetRef) → IsNetlist c → Fits library c.insts → cell_at library c.insts at ≡ Some k
    → IsPin (length c.nets) (length c.consts) r → (if p == length k.inputs then moved_output_fault c.insts at r else None) ≡ None → IsNetlist (record c { insts = with_pin c.insts at p r })
pin_moved library c at p k r s fits kind pin may = by (slice_get c.insts at) refl
  where
    by : (o : Option Instance) → slice_get c.insts at ≡ o → IsNetlist (record c { insts = with_pin c.insts at p r })
    by None e = rw e s
    by (Some i) e = rw e (whole (p == length k.inputs) refl may)
      where
        y : Instance
        y = record i { pins = set i.pins p r }

        old : IsInstance (length c.nets) (length c.consts) i
        old = subst (IsInstance (length c.nets) (length c.consts)) (get_or_from_slice_get c.insts at i i e) (s.insts at i (slice_get_within c.insts at i e))

        long : length i.pins ≡ length k.inputs + 1
        long = (cell_fits library c.insts at i k fits e kind).pins

        made : HasOutput (last_of (set i.pins p r)) → ((k n : ℕ) (j : Instance) → slice_get (set c.insts at y) k ≡ Some j → drives n j ≡ true → driver_of (set c.insts at y) n ≡ Some k)
            → IsNetlist (record c { insts = set c.insts at y })
        made output one = insts_set c (set c.insts at y) s
            (All-set (IsInstance (length c.nets) (length c.consts)) c.insts at y (record { named = old.named; pins = All-set (IsPin (length c.nets) (length c.consts)) i.pins p r pin old.pins; output = output; delays = old.delays }) s.insts)
            (subst (IsDistinct bytes_eq) (sym (map-set_same (λ (x : Instance). x.name) c.insts at y i (ap (λ (x : Instance). x.name) (sym (get_or_from_slice_get c.insts at i i e))))) s.insts_differ)
            one

        whole : (b : Bool) → (p == length k.inputs) ≡ b → (if b then moved_output_fault c.insts at r else None) ≡ None → IsNetlist (record c { insts = set c.insts at y })
        whole true is f =
            let (z, net, free) = may_move c.insts at r f in
            let place : p ≡ length k.inputs = grind (arith, nat_tests) in
            let last : last_of (set i.pins p r) ≡ Some (Net z) = last_set i.pins p r (omega (arith, place, long)) ∙ ap Some net in
            made (output_of _ z last) (one_driver_moved c.insts at z i y e last free s.one_driver)
        whole false is f =
            let place : p ≢ length k.inputs = grind (arith, nat_tests) in
            let last : last_of (set i.pins p r) ≡ last_of i.pins = last_kept i.pins p r (λ h. place (omega (arith, h, long))) in
            made (subst HasOutput (sym last) old.output) (one_driver_set c.insts at i y e last s.one_driver)

pub fits_moved : (library : List Cell) (insts : List Instance) (at p : ℕ) (r : NetRef) → Fits library insts → Fits library (with_pin insts at p r)
fits_moved library insts at p r fits = by (slice_get insts at) refl
  where
    by : (o : Option Instance) → slice_get insts at ≡ o → Fits library (with_pin insts at p r)
    by None e = rw e fits
    by (Some i) e =
        let old : IsOfLibrary library i = subst (IsOfLibrary library) (get_or_from_slice_get insts at i i e) (fits at i (slice_get_within insts at i e)) in
        rw e (All-set (IsOfLibrary library) insts at _ (old.0, old.1, record { pins = length-set i.pins p r ∙ old.2.pins; delays = old.2.delays }) fits)

pub cell_swapped : (c : Circuit) (at to : ℕ) (new : Cell) → IsNetlist c → IsNetlist (record c { insts = with_cell c.insts at to new })
cell_swapped c at to new s = by (slice_get c.insts at) refl
  where
    by : (o : Option Instance) → slice_get c.insts at ≡ o → IsNetlist (record c { insts = with_cell c.insts at to new })
    by None e = rw e s
    by (Some i) e =
        let is : get_or c.insts at i ≡ i = get_or_from_slice_get c.insts at i i e in
        let old : IsInstance (length c.nets) (length c.consts) i = subst (IsInstance (length c.nets) (length c.consts)) is (s.insts at i (slice_get_within c.insts at i e)) in
        rw e (insts_set c (set c.insts at _) s
        (All-set (IsInstance (length c.nets) (length c.consts)) c.insts at _ (record { named = old.named; pins = old.pins; output = old.output; delays = All-map IsOwnDelay (λ _. None) new.arcs (λ k d h. tt) }) s.insts)
        (subst (IsDistinct bytes_eq) (sym (map-set_same (λ (x : Instance). x.name) c.insts at _ i (ap (λ (x : Instance). x.name) (sym is)))) s.insts_differ)
        (one_driver_set c.insts at i _ e refl s.one_driver))

-- cells with the same pins have as many
as_many : (old new : Cell) → not (has_pins_of old new) ≡ false → length old.inputs ≡ length new.inputs
as_many old new h = by (pointwise bytes_eq old.inputs new.inputs) refl (bytes_eq old.output new.output) h
  where
    by : (a : Bool) → pointwise bytes_eq old.inputs new.inputs ≡ a → (b : Bool) → not (a && b) ≡ false → length old.inputs ≡ length new.inputs
    by true e b f = as_long bytes_eq old.inputs new.inputs e
    by false e b f = cc

pub fits_swapped : (library : List Cell) (insts : List Instance) (at to : ℕ) (old new : Cell) → Fits library insts → cell_at library insts at ≡ Some old → slice_get library to ≡ Some new
    → not (has_pins_of old new) ≡ false → Fits library (with_cell insts at to new)
fits_swapped library insts at to old new fits was is same = by (slice_get insts at) refl
  where
    by : (o : Option Instance) → slice_get insts at ≡ o → Fits library (with_cell insts at to new)
    by None e = rw e fits
    by (Some i) e =
        let fit = cell_fits library insts at i old fits e was in
        rw e (All-set (IsOfLibrary library) insts at _ (new, is, record { pins = omega (arith, fit.pins, as_many old new same); delays = length-map new.arcs (λ _. None) }) fits)
