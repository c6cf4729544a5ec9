-- What the definition accepts is a library.
use Rattle.std.proofs.Common.{◌≡◌, ℕ, ◌+◌, ◌≤◌, ◌++◌, ◌∷◌, [], List, length, map, Bool, true, false, nat_eq, nat_lt, nat_le, get_or, Option, Some, None, option_map, Ok, position, ℤ, pos, negsuc, refl, sym, ap, subst, ◌∙◌, arith, if◌then◌else◌, All, append_assoc}
use Rattle.std.specs.Prelude.{⊤, MatchOption}
use Rattle.std.specs.List.{IsDistinct, list_any}
use Rattle.std.specs.Str.{bytes_eq}
use Rattle.std.proofs.lemmas.Bool.Decides.{nat_tests}
use Rattle.std.proofs.lemmas.List.Elements.{All-nil, All-cons, All-push}
use Rattle.std.proofs.lemmas.List.{map-append, append-nil}
use Rattle.std.proofs.lemmas.List.Quantifiers.{position-Some}
use Rattle.std.specs.Cmp.{nat_eq_equiv}
use Rattle.std.proofs.lemmas.Bool.{or_from, or_parts}
use Rattle.std.proofs.lemmas.Bool.Decides.{Decides-eqb}
use Rattle.cyc_text.specs.Name.{is_name}
use Rattle.std.proofs.lemmas.Map.Keys.{IsDistinct-push}
use Rattle.cell_arcs.specs.declared.cells.Cell.{Cell}
use Rattle.cell_arcs.specs.declared.cells.CellArc.{CellArc}
use Rattle.cell_arcs.specs.declared.faults.LibraryFault.TheVariants.{UnknownPin, BadSense, BadDelay, BadName, BadShape, RepeatedPin}
use Rattle.cell_arcs.specs.Shape.{ArcShape, CellShape}
use Rattle.cell_arcs.specs.Steps.{or_fault, or_else}
use Rattle.cell_arcs.specs.Library.{sense_of, delay_of, arc_of, arcs_after, arcs_of, pin_fault, bad_name, repeated_pin, cell_from, cell_of, cell_shape, cells_from}
use Rattle.cell_arcs.specs.Firsts.{IsFirstBadName, IsFirstRepeat}
use Rattle.cell_arcs.proofs.FirstPins.{finds_first_bad_name, finds_first_repeat}
use Rattle.cell_arcs.proofs.StepLemmas.{bind_ok, or_fault_ok, if_ok, else_ok, unless_ok}
use Rattle.cell_arcs.proofs.Names.{same_bytes, equal_bytes}
use Rattle.cell_arcs.specs.IsLibrary.{IsArc, AreArcs, IsCell, member_keys}
use Rattle.toml.specs.Data.{Data, Members, no_members, member}

some_if : (b : Bool) (m n : ℕ) → (if b then Some m else None) ≡ Some n → (b ≡ true) × (m ≡ n)
some_if true m n h = (refl, cc)
some_if false m n h = cc

delay_bound : (z : ℤ) (n : ℕ) → delay_of z ≡ Some n → n ≤ 1000000
unfolding delay_of
delay_bound (pos m) n h =
    let (small, same) = some_if (nat_le m 1000000) m n h in
    grind (arith, nat_tests)
delay_bound (negsuc m) n h = cc

-- the places of the sources of the arcs, in order
abbrev pub ArePlaces : List (List ℕ) → List ArcShape → List CellArc → Type 0
ArePlaces inputs [] [] = ⊤
ArePlaces inputs [] (x ∷ xs) = ⊥
ArePlaces inputs (a ∷ arcs) [] = ⊥
ArePlaces inputs (a ∷ arcs) (x ∷ xs) = (position (bytes_eq a.from) inputs ≡ Some x.from) × ArePlaces inputs arcs xs

-- an accepted arc is sound, and begins where its source stands, which no earlier arc has
pub arc_sound : (n : ℕ) (inputs : List (List ℕ)) (earlier : List ArcShape) (a : ArcShape) (x : CellArc) → arc_of n inputs earlier a ≡ Ok x
    → IsArc inputs x × (position (bytes_eq a.from) inputs ≡ Some x.from) × (list_any (λ b. bytes_eq a.from b.from) earlier ≡ false)
unfolding arc_of
arc_sound n inputs earlier a x h =
    let (place, at, h1) = bind_ok (or_fault (UnknownPin n (length earlier + 1)) (position (bytes_eq a.from) inputs)) _ x h in
    let (fresh, h2) = if_ok (list_any (λ b. bytes_eq a.from b.from) earlier) _ _ x h1 in
    let (sense, _, h3) = bind_ok (or_fault (BadSense n (length earlier + 1)) (sense_of a.sense)) _ x h2 in
    let (rise, r, h4) = bind_ok (or_fault (BadDelay n (length earlier + 1)) (delay_of a.rise)) _ x h3 in
    let (fall, l, h5) = bind_ok (or_fault (BadDelay n (length earlier + 1)) (delay_of a.fall)) _ x h4 in
    let e : record { from = place; sense = sense; rise = rise; fall = fall } ≡ x = cc in
    let there = or_fault_ok _ _ place at in
    let found = position-Some (bytes_eq a.from) inputs place [] there in
    let high = delay_bound a.rise rise (or_fault_ok _ _ rise r) in
    let low = delay_bound a.fall fall (or_fault_ok _ _ fall l) in
    subst (λ (y : CellArc). IsArc inputs y × (position (bytes_eq a.from) inputs ≡ Some y.from) × (list_any (λ b. bytes_eq a.from b.from) earlier ≡ false)) e
    (record { within = found.0; rise = high; fall = low }, there, fresh)

places_push : (inputs : List (List ℕ)) (earlier : List ArcShape) (before : List CellArc) (a : ArcShape) (x : CellArc) → ArePlaces inputs earlier before → position (bytes_eq a.from) inputs ≡ Some x.from → ArePlaces inputs (earlier ++ a ∷ []) (before ++ x ∷ [])
places_push inputs [] [] a x h new = (new, tt)
places_push inputs [] (y ∷ before) a x h new = absurd h
places_push inputs (b ∷ earlier) [] a x h new = absurd h
places_push inputs (b ∷ earlier) (y ∷ before) a x h new = (h.0, places_push inputs earlier before a x h.1 new)

-- different names stand at different places
places_differ : (inputs : List (List ℕ)) (one other : List ℕ) (i j : ℕ) → position (bytes_eq one) inputs ≡ Some i → position (bytes_eq other) inputs ≡ Some j → bytes_eq one other ≡ false → nat_eq i j ≡ false
places_differ inputs one other i j at also differ = by (nat_eq i j) refl
  where
    by : (b : Bool) → nat_eq i j ≡ b → b ≡ false
    by false e = refl
    by true e =
        let same : i ≡ j = (Decides-eqb i j).0 e in
        let here = position-Some (bytes_eq one) inputs i [] at in
        let there = position-Some (bytes_eq other) inputs j [] also in
        let first : one ≡ get_or inputs i [] = same_bytes one _ here.1 in
        let second : other ≡ get_or inputs j [] = same_bytes other _ there.1 in
        let equal : bytes_eq one other ≡ true = equal_bytes one other (first ∙ ap (λ k. get_or inputs k []) same ∙ sym second) in
        sym equal ∙ differ

-- a source that no earlier arc has stands at a place of its own
place_is_fresh : (inputs : List (List ℕ)) (a : ArcShape) (place : ℕ) → position (bytes_eq a.from) inputs ≡ Some place
    → (earlier : List ArcShape) (before : List CellArc) → ArePlaces inputs earlier before → list_any (λ b. bytes_eq a.from b.from) earlier ≡ false → list_any (nat_eq place) (map (λ y. y.from) before) ≡ false
place_is_fresh inputs a place at [] [] h fresh = refl
place_is_fresh inputs a place at [] (y ∷ before) h fresh = absurd h
place_is_fresh inputs a place at (b ∷ earlier) [] h fresh = refl
place_is_fresh inputs a place at (b ∷ earlier) (y ∷ before) h fresh =
    let (here, rest) = or_parts (bytes_eq a.from b.from) (list_any (λ c. bytes_eq a.from c.from) earlier) fresh in
    or_from (nat_eq place y.from) (list_any (nat_eq place) (map (λ (z : CellArc). z.from) before))
    (places_differ inputs a.from b.from place y.from at h.0 here)
    (place_is_fresh inputs a place at earlier before h.1 rest)

arcs_push : (inputs : List (List ℕ)) (before : List CellArc) (x : CellArc) → AreArcs inputs before → IsArc inputs x → list_any (nat_eq x.from) (map (λ y. y.from) before) ≡ false → AreArcs inputs (before ++ x ∷ [])
arcs_push inputs before x old new fresh = record {
  each = All-push (IsArc inputs) before x old.each new;
  distinct = rw (map-append (λ (a : CellArc). a.from) before (x ∷ [])) (IsDistinct-push nat_eq_equiv (map (λ a. a.from) before) x.from old.distinct fresh);
}

-- accepted arcs are sound behind sound ones
pub arcs_sound : (n : ℕ) (inputs : List (List ℕ)) (earlier rest : List ArcShape) (before arcs : List CellArc) → arcs_after n inputs earlier rest ≡ Ok arcs → ArePlaces inputs earlier before → AreArcs inputs before → AreArcs inputs (before ++ arcs)
unfolding arcs_after
arcs_sound n inputs earlier [] before arcs h places old =
    let e : [] ≡ arcs = cc in
    subst (λ (xs : List CellArc). AreArcs inputs (before ++ xs)) e (subst (AreArcs inputs) (sym (append-nil before)) old)
arcs_sound n inputs earlier (a ∷ rest) before arcs h places old =
    let (x, is, more) = bind_ok (arc_of n inputs earlier a) _ arcs h in
    let (xs, others, all) = bind_ok (arcs_after n inputs (earlier ++ a ∷ []) rest) _ arcs more in
    let (new, at, fresh) = arc_sound n inputs earlier a x is in
    let e : (x ∷ xs) ≡ arcs = cc in
    let sound = arcs_sound n inputs (earlier ++ a ∷ []) rest (before ++ x ∷ []) xs others (places_push inputs earlier before a x places at)
    (arcs_push inputs before x old new (place_is_fresh inputs a x.from at earlier before places fresh)) in
    subst (λ (ys : List CellArc). AreArcs inputs (before ++ ys)) e (subst (AreArcs inputs) (append_assoc before (x ∷ []) xs) sound)

no_arcs : (inputs : List (List ℕ)) → AreArcs inputs []
unfolding IsDistinct
no_arcs inputs = record { each = λ k d h. absurd (omega arith); distinct = tt }

no_fault : (n : ℕ) (pins : List (List ℕ)) → pin_fault n pins ≡ None → (bad_name pins ≡ None) × (repeated_pin pins ≡ None)
unfolding pin_fault
no_fault n pins h = by (bad_name pins) (repeated_pin pins) h
  where
    by : (a b : Option ℕ) → or_else (option_map (BadName n) a) (option_map (RepeatedPin n) b) ≡ None → (a ≡ None) × (b ≡ None)
    by None None e = (refl, refl)
    by None (Some q) e = cc
    by (Some p) b e = cc

-- pins without a fault are different names
pins_sound : (n : ℕ) (pins : List (List ℕ)) → pin_fault n pins ≡ None → All (λ p. is_name p ≡ true) pins × IsDistinct bytes_eq pins
pins_sound n pins h =
    let (names, differ) = no_fault n pins h in (
      subst (λ o. MatchOption o (All (λ p. is_name p ≡ true) pins) (IsFirstBadName pins)) names (finds_first_bad_name pins),
      subst (λ o. MatchOption o (IsDistinct bytes_eq pins) (IsFirstRepeat pins)) differ (finds_first_repeat pins),
    )

pub cell_from_sound : (n : ℕ) (name : List ℕ) (s : CellShape) (c : Cell) → is_name name ≡ true → cell_from n name s ≡ Ok c → IsCell c × (c.name ≡ name)
unfolding cell_from
cell_from_sound n name s c named h =
    let (few, h1) = if_ok (nat_lt 16 (length s.inputs)) _ _ c h in
    let (pins, h2) = unless_ok (pin_fault n (s.inputs ++ s.output ∷ [])) _ c h1 in
    let (arcs, is, h3) = bind_ok (arcs_of n s.inputs s.arcs) _ c h2 in
    let (names, differ) = pins_sound n (s.inputs ++ s.output ∷ []) pins in
    let e : record { name = name; inputs = s.inputs; output = s.output; arcs = arcs } ≡ c = cc in
    let few_inputs : length s.inputs ≤ 16 = grind (arith, nat_tests) in
    subst (λ (d : Cell). IsCell d × (d.name ≡ name)) e
    (record { named = named; few = few_inputs; names = names; distinct = differ; arcs = arcs_sound n s.inputs [] s.arcs [] arcs is tt (no_arcs s.inputs) }, refl)

pub cell_sound : (n : ℕ) (name : List ℕ) (d : Data) (c : Cell) → cell_of n name d ≡ Ok c → IsCell c × (c.name ≡ name)
unfolding cell_of
cell_sound n name d c h =
    let (named, h1) = else_ok (is_name name) _ _ c h in
    let (s, _, h2) = bind_ok (or_fault (BadShape n) (cell_shape d)) _ c h1 in
    cell_from_sound n name s c named h2

-- accepted cells are sound, and have the keys of the table as their names
pub cells_sound : (n : ℕ) (ms : Members) (cells : List Cell) → cells_from n ms ≡ Ok cells → All IsCell cells × (map (λ c. c.name) cells ≡ member_keys ms)
unfolding cells_from
cells_sound n no_members cells h =
    let e : [] ≡ cells = cc in
    subst (λ (cs : List Cell). All IsCell cs × (map (λ c. c.name) cs ≡ [])) e (All-nil IsCell, refl)
cells_sound n (member k d ms) cells h =
    let (c, is, more) = bind_ok (cell_of n k d) _ cells h in
    let (cs, others, all) = bind_ok (cells_from (n + 1) ms) _ cells more in
    let (good, same) = cell_sound n k d c is in
    let (each, names) = cells_sound (n + 1) ms cs others in
    let e : (c ∷ cs) ≡ cells = cc in
    subst (λ (xs : List Cell). All IsCell xs × (map (λ x. x.name) xs ≡ k ∷ member_keys ms)) e (All-cons IsCell c cs good each, cc (same, names))
