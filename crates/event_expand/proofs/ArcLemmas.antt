-- The rules of an instance's arcs, one after the other.
use Rattle.std.proofs.Common.{◌≡◌, ◌<◌, ◌≤◌, ◌+◌, ◌++◌, ◌∷◌, [], ℕ, zero, suc, List, Option, Some, None, length, get_or, drop, map, slice_get, refl, sym, ap, subst, ◌∙◌, arith, append_assoc, All}
use Rattle.std.proofs.lemmas.List.{map-append}
use Rattle.std.proofs.lemmas.Option.{same_Some, none-some, slice_get_within, get_or_from_slice_get, slice_get-get_or}
use Rattle.cell_arcs.specs.declared.cells.Cell.{Cell}
use Rattle.cell_arcs.specs.declared.cells.CellArc.{CellArc}
use Rattle.cell_arcs.specs.IsLibrary.{IsArc, IsCell}
use Rattle.cell_arcs.specs.Steps.{or_else}
use Rattle.netlist_model.specs.Circuit.{last_of}
use Rattle.netlist_model.specs.Expansion.{rules_of_arc, rules_of_arcs, delay_of}
use Rattle.netlist_model.specs.Sound.{FitsCell, IsInstance, IsPin}
use Rattle.netlist_model.specs.declared.parts.Delay.{Delay}
use Rattle.netlist_model.specs.declared.parts.Instance.{Instance}
use Rattle.netlist_model.specs.declared.parts.NetRef.{NetRef}
use Rattle.netlist_model.specs.declared.parts.NetRef.TheVariants.{Net, Const}
use Rattle.netlist_model.specs.declared.parts.Tick.{Tick}
use Rattle.rule_system.specs.declared.rules.Rule.{Rule}
use Rattle.event_expand.specs.Pieces.{IsSmall}
use Rattle.event_expand.specs.Systems.{system_rule}

-- the last of a list, by its place
pub last_at : {A : Type 0} (xs : List A) (n : ℕ) → length xs ≡ n + 1 → last_of xs ≡ slice_get xs n
last_at [] n e = refl
last_at (x ∷ []) zero e = refl
last_at (x ∷ []) (suc n) e = absurd (omega arith)
last_at (x ∷ y ∷ xs) zero e = absurd (omega arith)
last_at (x ∷ y ∷ xs) (suc n) e =
    let within : n < length (y ∷ xs) = omega arith in
    let some = slice_get-get_or (y ∷ xs) n y within in
    ap (λ o. or_else o (Some x)) (last_at (y ∷ xs) n (omega arith) ∙ some) ∙ sym some

-- from a place in a list on
pub drop_from : {A : Type 0} (xs : List A) (k n : ℕ) (x : A) → n ≡ k + 1 → slice_get xs k ≡ Some x → drop k xs ≡ x ∷ drop n xs
drop_from [] k n x e h = absurd (none-some x h)
drop_from (y ∷ ys) k zero x e h = absurd (omega arith)
drop_from (y ∷ ys) zero (suc n) x e h =
    let none : n ≡ 0 = omega arith in
    rw none (ap (λ z. z ∷ ys) (same_Some y x h))
drop_from (y ∷ ys) (suc k) (suc n) x e h = drop_from ys k n x (omega arith) h

-- an element of a list has what all have
pub All_get : {A : Type 0} (P : A → Type 0) (xs : List A) (k : ℕ) (x : A) → All P xs → slice_get xs k ≡ Some x → P x
All_get P xs k x all is = subst P (get_or_from_slice_get xs k x x is) (all k x (slice_get_within xs k x is))

-- an arc begins at one of the instance's pins
pub arc_at_pin : (cell : Cell) (i : Instance) (place : ℕ) (arc : CellArc) → IsCell cell → FitsCell cell i → slice_get cell.arcs place ≡ Some arc
    → arc.from < length i.pins
arc_at_pin cell i place arc is fits at =
    let one : IsArc cell.inputs arc = All_get (IsArc cell.inputs) cell.arcs place arc is.arcs.each at in
    omega (arith, one.within, fits.pins)

-- a pin is on one of the few nets that there are
pub small_pin : (nets consts : ℕ) (i : Instance) (place : ℕ) (pin : NetRef) → IsInstance nets consts i → nets ≤ 16384 → slice_get i.pins place ≡ Some pin
    → IsSmall pin
small_pin nets consts i place (Net n) is few at =
    let here : n < nets = All_get (IsPin nets consts) i.pins place (Net n) is.pins at in
    omega arith
small_pin nets consts i place (Const k) is few at = tt

module _ (ticks : List Tick) (cell : Cell) (i : Instance) where
  -- with the rules of one more arc, the rest makes what it made
  one_more : (place : ℕ) (arc : CellArc) (input : NetRef) (own : Option Delay) (output : NetRef) (whole before after : List Rule)
      → slice_get cell.arcs place ≡ Some arc → slice_get i.pins arc.from ≡ Some input → slice_get i.delays place ≡ Some own → last_of i.pins ≡ Some output
      → before ++ map system_rule (rules_of_arcs ticks i place (drop place cell.arcs)) ≡ whole
      → after ≡ before ++ map system_rule (rules_of_arc ticks (Some input) (Some output) arc (delay_of arc (Some own)))
      → after ++ map system_rule (rules_of_arcs ticks i (place + 1) (drop (place + 1) cell.arcs)) ≡ whole
  one_more place arc input own output whole before after at pin delay out kept put =
      let here = rules_of_arc ticks (Some input) (Some output) arc (delay_of arc (Some own)) in
      let rest = rules_of_arcs ticks i (place + 1) (drop (place + 1) cell.arcs) in
      let all : rules_of_arcs ticks i place (drop place cell.arcs) ≡ here ++ rest = rw (drop_from cell.arcs place (place + 1) arc refl at, pin, delay, out) refl in
      ap (λ l. l ++ map system_rule rest) put ∙ append_assoc before (map system_rule here) (map system_rule rest)
      ∙ ap (λ l. before ++ l) (sym (map-append system_rule here rest) ∙ ap (map system_rule) (sym all)) ∙ kept

  -- the same of the arc at a place, as the tables show it
  pub arc_more : (arcs : List CellArc) (pins : List NetRef) (delays : List (Option Delay)) (inputs : List (List ℕ)) (a : CellArc) (p : NetRef)
      → IsCell cell → FitsCell cell i → arcs ≡ cell.arcs → pins ≡ i.pins → delays ≡ i.delays → inputs ≡ cell.inputs
      → (place : ℕ) (whole before after : List Rule) → place < length arcs
      → before ++ map system_rule (rules_of_arcs ticks i place (drop place cell.arcs)) ≡ whole
      → after ≡ before ++ map system_rule (rules_of_arc ticks (Some (get_or pins (get_or arcs place a).from p)) (Some (get_or pins (length inputs) p)) (get_or arcs place a)
      (delay_of (get_or arcs place a) (Some (get_or delays place None))))
      → after ++ map system_rule (rules_of_arcs ticks i (place + 1) (drop (place + 1) cell.arcs)) ≡ whole
  arc_more arcs pins delays inputs a p is fits arcs_is pins_is delays_is inputs_is place whole before after lt kept put =
      let at : slice_get cell.arcs place ≡ Some (get_or arcs place a) = ap (λ l. slice_get l place) (sym arcs_is) ∙ slice_get-get_or arcs place a lt in
      let from : (get_or arcs place a).from < length pins = rw pins_is (arc_at_pin cell i place (get_or arcs place a) is fits at) in
      let pin = ap (λ l. slice_get l (get_or arcs place a).from) (sym pins_is) ∙ slice_get-get_or pins (get_or arcs place a).from p from in
      let delay = ap (λ l. slice_get l place) (sym delays_is) ∙ slice_get-get_or delays place None (omega (arith, ap length arcs_is, ap length delays_is, fits.delays)) in
      let out = last_at i.pins (length inputs) (omega (arith, ap length inputs_is, fits.pins))
      ∙ ap (λ l. slice_get l (length inputs)) (sym pins_is) ∙ slice_get-get_or pins (length inputs) p (omega (arith, ap length pins_is, ap length inputs_is, fits.pins)) in
      one_more place _ _ _ _ whole before after at pin delay out kept put
