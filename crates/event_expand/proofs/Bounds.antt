-- The rules of a netlist are within the limits of a system.
use Rattle.std.proofs.Common.{◌≡◌, ◌<◌, ◌≤◌, ◌*◌, ◌+◌, ◌∷◌, [], ℕ, Bool, true, false, List, Option, Some, None, length, slice_get, refl, sym, ap, ◌∙◌, arith, All}
use Rattle.std.specs.List.{flat_map}
use Rattle.std.specs.Option.{option_map_or}
use Rattle.std.proofs.lemmas.List.{length-map}
use Rattle.std.proofs.lemmas.Option.{none-some}
use Rattle.std.proofs.lemmas.List.Elements.{All-nil, All-cons, All-head, All-tail, All-append, All-map}
use Rattle.cell_arcs.specs.declared.cells.Cell.{Cell}
use Rattle.cell_arcs.specs.declared.cells.CellArc.{CellArc}
use Rattle.cell_arcs.specs.declared.cells.Sense.{Sense}
use Rattle.cell_arcs.specs.declared.cells.Sense.TheVariants.{Pos, Neg, Non}
use Rattle.cell_arcs.specs.IsLibrary.{IsArc, IsCell, IsLibrary}
use Rattle.netlist_model.specs.Circuit.{Circuit, event_at, last_of, is_between}
use Rattle.netlist_model.specs.Expansion as netlist
use Rattle.netlist_model.specs.Sound.{IsInstance, IsNetlist, IsOwnDelay, IsPin, IsTick}
use Rattle.netlist_model.specs.declared.parts.Delay.{Delay}
use Rattle.netlist_model.specs.declared.parts.Instance.{Instance}
use Rattle.netlist_model.specs.declared.parts.NetRef.{NetRef}
use Rattle.netlist_model.specs.declared.parts.NetRef.TheVariants.{Net, Const}
use Rattle.netlist_model.specs.declared.parts.Tick.{Tick}
use Rattle.rule_system.specs.declared.rules.Rule.{Rule}
use Rattle.rule_system.specs.Bounds.{IsRule, IsSystem}
use Rattle.event_expand.specs.Systems.{system_rule, system_rules}
use Rattle.event_expand.proofs.ArcLemmas.{All_get, last_at}

-- what all of a list have, all of its rest have
All_flat_map : {X A : Type 0} (P : A → Type 0) (f : X → List A) (xs : List X) → All (λ x. All P (f x)) xs → All P (flat_map f xs)
All_flat_map P f [] h = All-nil P
All_flat_map P f (x ∷ xs) h =
    All-append P (f x) (flat_map f xs) (All-head (λ x. All P (f x)) x xs h) (All_flat_map P f xs (All-tail (λ x. All P (f x)) x xs h))

-- delays within the limit
record IsDelay (d : Delay) : Type 0 where
  rise : d.rise ≤ 1000000
  fall : d.fall ≤ 1000000

module _ (nets consts : ℕ) (ticks : List Tick) (counted : All (IsTick nets) ticks) where
  few_offsets : (source target : ℕ) (ts : List Tick) → All (IsTick nets) ts → netlist.offset_of ts source target ≤ 15
  few_offsets source target [] h = omega arith
  few_offsets source target (t ∷ ts) h = go (is_between source target t) refl (few_offsets source target ts (All-tail (IsTick nets) t ts h))
    where
      go : (b : Bool) → is_between source target t ≡ b → netlist.offset_of ts source target ≤ 15 → netlist.offset_of (t ∷ ts) source target ≤ 15
      go true e rest = rw e (All-head (IsTick nets) t ts h).few
      go false e rest = rw e rest

  abbrev IsWithin : netlist.Rule → Type 0
  IsWithin r = IsRule (2 * nets) (system_rule r)

  rule_within : (a z delay : ℕ) (up down : Bool) → a < nets → z < nets → delay ≤ 1000000 → IsWithin (netlist.rule_of ticks (event_at up a) (event_at down z) delay)
  rule_within a z delay up down la lz ld = (edge up a la, edge down z lz, (ld, few_offsets (event_at up a) (event_at down z) ticks counted))
    where
      edge : (rising : Bool) (n : ℕ) → n < nets → event_at rising n < 2 * nets
      edge true n lt = omega arith
      edge false n lt = omega arith

  pair : (r s : netlist.Rule) → IsWithin r → IsWithin s → All IsWithin (r ∷ s ∷ [])
  pair r s p q = All-cons IsWithin r (s ∷ []) p (All-cons IsWithin s [] q (All-nil IsWithin))

  -- the rule from an edge of net a to an edge of net z
  abbrev edge_rule : ℕ → ℕ → Bool → Bool → ℕ → netlist.Rule
  edge_rule a z up down delay = netlist.rule_of ticks (event_at up a) (event_at down z) delay

  rules_within : (s : Sense) (a z : ℕ) (d : Delay) → a < nets → z < nets → IsDelay d → All IsWithin (netlist.rules_by s ticks a z d)
  rules_within Pos a z d la lz ld =
      pair (edge_rule a z true true d.rise) (edge_rule a z false false d.fall) (rule_within a z d.rise true true la lz ld.rise) (rule_within a z d.fall false false la lz ld.fall)
  rules_within Neg a z d la lz ld =
      pair (edge_rule a z false true d.rise) (edge_rule a z true false d.fall) (rule_within a z d.rise false true la lz ld.rise) (rule_within a z d.fall true false la lz ld.fall)
  rules_within Non a z d la lz ld =
      All-append IsWithin (edge_rule a z true true d.rise ∷ edge_rule a z false true d.rise ∷ []) (edge_rule a z true false d.fall ∷ edge_rule a z false false d.fall ∷ [])
      (pair (edge_rule a z true true d.rise) (edge_rule a z false true d.rise) (rule_within a z d.rise true true la lz ld.rise) (rule_within a z d.rise false true la lz ld.rise))
      (pair (edge_rule a z true false d.fall) (edge_rule a z false false d.fall) (rule_within a z d.fall true false la lz ld.fall) (rule_within a z d.fall false false la lz ld.fall))

  arc_within : (arc : CellArc) (d : Delay) (from out : Option NetRef) → IsDelay d
      → ((p : NetRef) → from ≡ Some p → IsPin nets consts p) → ((p : NetRef) → out ≡ Some p → IsPin nets consts p)
      → All IsWithin (netlist.rules_of_arc ticks from out arc d)
  arc_within arc d (Some (Net a)) (Some (Net z)) ld la lz = rules_within arc.sense a z d (la (Net a) refl) (lz (Net z) refl) ld
  arc_within arc d (Some (Net a)) (Some (Const k)) ld la lz = All-nil IsWithin
  arc_within arc d (Some (Net a)) None ld la lz = All-nil IsWithin
  arc_within arc d (Some (Const k)) out ld la lz = All-nil IsWithin
  arc_within arc d None out ld la lz = All-nil IsWithin

  delay_within : (inputs : List (List ℕ)) (arc : CellArc) (own : Option (Option Delay)) → IsArc inputs arc
      → ((d : Option Delay) → own ≡ Some d → IsOwnDelay d) → IsDelay (netlist.delay_of arc own)
  delay_within inputs arc (Some (Some d)) is h = record { rise = (h (Some d) refl).0; fall = (h (Some d) refl).1 }
  delay_within inputs arc (Some None) is h = record { rise = is.rise; fall = is.fall }
  delay_within inputs arc None is h = record { rise = is.rise; fall = is.fall }

  module _ (i : Instance) (is : IsInstance nets consts i) where
    pin_within : (place : ℕ) (p : NetRef) → slice_get i.pins place ≡ Some p → IsPin nets consts p
    pin_within place p e = All_get (IsPin nets consts) i.pins place p is.pins e

    last_within : (pins : List NetRef) (p : NetRef) → All (IsPin nets consts) pins → last_of pins ≡ Some p → IsPin nets consts p
    last_within [] p all e = absurd (none-some p e)
    last_within (x ∷ xs) p all e = All_get (IsPin nets consts) (x ∷ xs) (length xs) p all (sym (last_at (x ∷ xs) (length xs) (omega arith)) ∙ e)

    arcs_within : (inputs : List (List ℕ)) (arcs : List CellArc) (place : ℕ) → All (IsArc inputs) arcs → All IsWithin (netlist.rules_of_arcs ticks i place arcs)
    arcs_within inputs [] place h = All-nil IsWithin
    arcs_within inputs (arc ∷ arcs) place h =
        let d = delay_within inputs arc (slice_get i.delays place) (All-head (IsArc inputs) arc arcs h)
        (λ own e. All_get IsOwnDelay i.delays place own is.delays e) in
        let own = netlist.delay_of arc (slice_get i.delays place) in
        All-append IsWithin (netlist.rules_of_arc ticks (slice_get i.pins arc.from) (last_of i.pins) arc own) (netlist.rules_of_arcs ticks i (place + 1) arcs)
        (arc_within arc own (slice_get i.pins arc.from) (last_of i.pins) d (λ p e. pin_within arc.from p e) (λ p e. last_within i.pins p is.pins e))
        (arcs_within inputs arcs (place + 1) (All-tail (IsArc inputs) arc arcs h))

    inst_within : (library : List Cell) → All IsCell library → All IsWithin (netlist.rules_of_inst library ticks i)
    inst_within library cells = go (slice_get library i.cell) refl
      where
        go : (o : Option Cell) → slice_get library i.cell ≡ o → All IsWithin (option_map_or (λ k. netlist.rules_of_arcs ticks i 0 k.arcs) o [])
        go None e = All-nil IsWithin
        go (Some k) e =
            let cell : IsCell k = All_get IsCell library i.cell k cells e in
            arcs_within k.inputs k.arcs 0 cell.arcs.each

-- the rules of a netlist's system are within the limits
pub rules_are_within : (library : List Cell) (c : Circuit) → IsLibrary library → IsNetlist c → All (IsRule (2 * length c.nets)) (system_rules library c)
rules_are_within library c cells net =
    let nets = length c.nets in
    let consts = length c.consts in
    let P = λ (r : netlist.Rule). IsRule (2 * nets) (system_rule r) in
    All-map (IsRule (2 * nets)) system_rule (netlist.rules_of library c)
    (All_flat_map P (netlist.rules_of_inst library c.ticks) c.insts
    (λ k d lt. inst_within nets consts c.ticks net.ticks _ (net.insts k d lt) library cells.each))

-- and make a system
pub expanded_is_system : (library : List Cell) (c : Circuit) (events : ℕ) (rules : List Rule) → IsLibrary library → IsNetlist c
    → length (netlist.rules_of library c) ≤ 131072 → events ≡ 2 * length c.nets → rules ≡ system_rules library c → IsSystem events rules
expanded_is_system library c events rules cells net few events_is rules_is =
    let long : length rules ≡ length (netlist.rules_of library c) = ap length rules_is ∙ length-map (netlist.rules_of library c) system_rule in
    let each : All (IsRule events) rules = rw (events_is, rules_is) (rules_are_within library c cells net) in
    (omega (arith, net.few_nets, events_is), omega arith, each)
