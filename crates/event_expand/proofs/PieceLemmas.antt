-- The rules of pieces of consecutive instances, side by side.
use Rattle.std.proofs.Common.{◌≡◌, ◌+◌, ◌∷◌, [], ℕ, suc, List, Some, Result, Ok, Err, length, map, slice_get, refl, sym, ap, subst, ◌∙◌, arith, IfOk, MatchResult, Contains, Vec, map-id}
use Rattle.std.specs.List.{AllZip, flat_map, range_with_len}
use Rattle.std.specs.Option.{option_map_or}
use Rattle.std.specs.declared.alloc.AllocError.{AllocError}
use Rattle.std.specs.declared.alloc.Global.{Global}
use Rattle.std.proofs.lemmas.List.{map-append, flat_map_more}
use Rattle.std.proofs.lemmas.List.Concat.{flat_map-append}
use Rattle.std.proofs.lemmas.Slice.Zip.{AllZip-map}
use Rattle.rayon.specs.Lists.{Folds}
use Rattle.rayon.proofs.Reducing.{Folds-elim}
use Rattle.rayon.proofs.ListFacts.{AllZip-weaken}
use Rattle.cell_arcs.specs.declared.cells.Cell.{Cell}
use Rattle.netlist_model.specs.Circuit.{Circuit}
use Rattle.netlist_model.specs.declared.parts.Instance.{Instance}
use Rattle.netlist_model.specs.Expansion as netlist
use Rattle.rule_system.specs.declared.rules.Rule.{Rule}
use Rattle.event_expand.specs.Pieces.{Holds, Grows, rules_at}
use Rattle.rule_system.specs.Bounds.{EventRules}
use Rattle.event_expand.specs.Systems.{system_rule, system_rules}

abbrev Piece : Type 0
Piece = Result (Vec Rule Global) AllocError

module _ (f : ℕ → List Rule) where
  -- a piece that grows by the rules of each place has those of all its places
  piece_holds : (part : List ℕ) (start end : Piece) → Holds [] start → Folds (λ a at b. Grows (f at) a b) start part end → Holds (flat_map f part) end
  piece_holds part start end h folds = Folds-elim (λ a at b. Grows (f at) a b) (λ done a. Holds (flat_map f done) a)
      (λ done a at b held grows. subst (λ l. Holds l b) (flat_map_more f [] done at) (grows (flat_map f done) held)) part start end h folds

  -- pieces side by side
  side_by_side : (parts : List (List ℕ)) (made : List (Vec Rule Global)) → AllZip (λ part piece. Holds (flat_map f part) piece) parts (map Ok made)
      → flat_map (λ v. v.items) made ≡ flat_map f (flat_map (λ l. l) parts)
  side_by_side [] [] h = refl
  side_by_side [] (v ∷ vs) h = absurd h
  side_by_side (p ∷ ps) [] h = absurd h
  side_by_side (p ∷ ps) (v ∷ vs) h =
      rw (h.0, side_by_side ps vs h.1) (sym (flat_map-append f p (flat_map (λ l. l) ps)))

module _ (g : Instance → List netlist.Rule) (all : List Instance) where
  abbrev at_place : ℕ → List Rule
  at_place at = map system_rule (option_map_or g (slice_get all at) [])

  -- the rules place by place, from a place on
  from_place : (start : ℕ) (insts : List Instance) → ((k : ℕ) → slice_get all (start + k) ≡ slice_get insts k)
      → flat_map at_place (range_with_len start (length insts)) ≡ map system_rule (flat_map g insts)
  from_place start [] h = refl
  from_place start (i ∷ insts) h =
      let whole : start + 0 ≡ start = omega arith in
      let here : slice_get all start ≡ Some i = ap (slice_get all) (sym whole) ∙ h 0 in
      let rest = from_place (start + 1) insts (λ k. let e : (start + 1) + k ≡ start + suc k = omega arith in ap (slice_get all) e ∙ h (suc k)) in
      rw (here, rest) (sym (map-append system_rule (g i) (flat_map g insts)))

-- the rules of all places are those of the system
pub all_places : (library : List Cell) (c : Circuit) → flat_map (rules_at library c) (range_with_len 0 (length c.insts)) ≡ system_rules library c
all_places library c = from_place (netlist.rules_of_inst library c.ticks) c.insts 0 c.insts (λ k. let e : 0 + k ≡ k = omega arith in ap (slice_get c.insts) e)

-- what is collected of the pieces
pub collected : (library : List Cell) (c : Circuit) (parts : List (List ℕ)) (pieces : List Piece) (made : Result (Vec (Vec Rule Global) Global) AllocError)
    → flat_map (λ l. l) parts ≡ range_with_len 0 (length c.insts)
    → AllZip (λ part piece. (e : Piece) × Holds [] e × Folds (λ a at b. Grows (rules_at library c at) a b) e part piece) parts pieces
    → MatchResult made (λ v. (vs : List (Vec Rule Global)) × (pieces ≡ map Ok vs) × (v.items ≡ vs)) (λ e. Contains pieces (Err e))
    → IfOk made (λ v. flat_map (λ w. w.items) v.items ≡ system_rules library c)
collected library c parts pieces (Err e) whole folded h = tt
collected library c parts pieces (Ok v) whole folded h =
    let f = rules_at library c in
    let held = AllZip-weaken _ (λ part piece. Holds (flat_map f part) piece) (λ part piece p. piece_holds f part p.0 piece p.1 p.2) parts pieces folded in
    rw h.2 (side_by_side f parts h.0 (subst (AllZip (λ part piece. Holds (flat_map f part) piece) parts) h.1 held)
    ∙ ap (flat_map f) whole ∙ all_places library c)

-- what is copied piece by piece
pub joined : (library : List Cell) (c : Circuit) (pieces shown : List (Vec Rule Global)) (rules : List Rule) → shown ≡ pieces
    → flat_map (λ v. v.items) pieces ≡ system_rules library c → AllZip (λ a b. b ≡ a) (flat_map (λ v. v.items) shown) rules
    → rules ≡ system_rules library c
joined library c pieces shown rules same all copied =
    AllZip-map (λ r. r) (flat_map (λ v. v.items) shown) rules copied ∙ map-id (flat_map (λ v. v.items) shown) ∙ ap (flat_map (λ v. v.items)) same ∙ all

-- systems of the same events and rules
pub same_system : (events others : ℕ) (rules some : List Rule) → events ≡ others → rules ≡ some
    → let one : EventRules = record { events = events; rules = rules } in let other : EventRules = record { events = others; rules = some } in one ≡ other
same_system events others rules some e r = rw (e, r) refl
