-- The names of the cells as the keys of a set.
use Rattle.std.proofs.Common.{◌≡◌, ℕ, ◌+◌, ◌<◌, List, [], ◌∷◌, length, map, take, get_or, false, Vec, Global, position, Less, Option, Some, None, All, true, true≢false, refl, sym, ap, ◌∙◌, arith, nat_cmp}
use Rattle.std.specs.Prelude.{IfSome, IfNone, IsSomeAnd, slice_get, ◌≢◌}
use Rattle.std.specs.List.{list_any}
use Rattle.std.proofs.lemmas.Option.{slice_get-get_or}
use Rattle.std.proofs.lemmas.List.Elements.{All-weaker}
use Rattle.std.proofs.lemmas.List.Quantifiers.{position-Some}
use Rattle.std.specs.Str.{bytes_eq}
use Rattle.std.specs.Ordering.{is_eq}
use Rattle.std.specs.Cmp.Lexicographic.{slice_cmp}
use Rattle.std.proofs.lemmas.Cmp.{nat_list_eq_equiv}
use Rattle.std.proofs.lemmas.List.{length-take, take_more, take-map, get_or-map, get_or-take, map-append, length-map}
use Rattle.std.proofs.lemmas.List.Folds.{list_any_none}
use Rattle.std.proofs.lemmas.Map.Keys.{Less-from_sorted}
use Rattle.std.proofs.lemmas.Map.Text.{is_eq-slice_cmp}
use Rattle.cell_arcs.proofs.Names.{list_any-map, position-None, same_bytes, equal_bytes}
use Rattle.indexmap.specs.IndexSet.{insert_key}
use Rattle.cell_arcs.specs.declared.cells.Cell.{Cell}
use Rattle.cell_arcs.specs.IsLibrary.{AscendByName}

name_of : Cell → List ℕ
name_of c = c.name

-- a name of an ascending list differs from each before it
fresh : (cells : List Cell) (i : ℕ) (x : Cell) → AscendByName cells → i < length cells → x ≡ get_or cells i x → list_any (bytes_eq x.name) (map (λ c. c.name) (take i cells)) ≡ false
fresh cells i x sorted within at =
    list_any_none (bytes_eq x.name) (map (λ c. c.name) (take i cells)) (λ k d h. differs k d h)
  where
    differs : (k : ℕ) (d : List ℕ) → k < length (map (λ (c : Cell). c.name) (take i cells)) → bytes_eq x.name (get_or (map (λ (c : Cell). c.name) (take i cells)) k d) ≡ false
    differs k d h =
        let names = map (λ (c : Cell). c.name) cells in
        let low : k < i = omega (arith, length-map (take i cells) (λ (c : Cell). c.name), length-take i cells) in
        let here : get_or names i d ≡ x.name = get_or-map (λ (c : Cell). c.name) cells i x d within ∙ ap (λ (c : Cell). c.name) (sym at) in
        let in_names : i < length names = omega (arith, length-map cells (λ (c : Cell). c.name)) in
        let below : slice_cmp nat_cmp (get_or names k d) x.name ≡ Less = ap (slice_cmp nat_cmp (get_or names k d)) (sym here) ∙ Less-from_sorted (slice_cmp nat_cmp) names k i d sorted low in_names in
        ap (λ ns. bytes_eq x.name (get_or ns k d)) (sym (take-map (λ (c : Cell). c.name) i cells))
        ∙ ap (bytes_eq x.name) (get_or-take i names k d low)
        ∙ nat_list_eq_equiv.symm x.name (get_or names k d)
        ∙ sym (is_eq-slice_cmp (get_or names k d) x.name)
        ∙ ap is_eq below

pub names_step : (cells : List Cell) (i : ℕ) (x : Cell) (keys : List (Vec ℕ Global)) (k : Vec ℕ Global)
    → AscendByName cells → i < length cells → x ≡ get_or cells i x → k.items ≡ x.name
    → map (λ v. v.items) keys ≡ map (λ c. c.name) (take i cells)
    → map (λ v. v.items) (insert_key (λ a b. bytes_eq a.items b.items) keys k) ≡ map (λ c. c.name) (take (i + 1) cells)
names_step cells i x keys k sorted within at same before =
    let absent : list_any (λ b. bytes_eq k.items b.items) keys ≡ false =
    sym (list_any-map (λ (v : Vec ℕ Global). v.items) (bytes_eq k.items) keys) ∙ rw (before, same) (fresh cells i x sorted within at) in
    rw (absent, map-append (λ (v : Vec ℕ Global). v.items) keys (k ∷ []), before, same, take_more cells i x within, map-append (λ (c : Cell). c.name) (take i cells) (get_or cells i x ∷ []), ← at) refl

-- the cell at the place of a name has the name
pub found_has_name : (cells : List Cell) (name : List ℕ) (r : Option ℕ) → r ≡ position (λ c. bytes_eq name c.name) cells → IfSome r (λ at. IsSomeAnd (slice_get cells at) (λ c. c.name ≡ name))
found_has_name cells name None h = tt
found_has_name cells name (Some at) h = by cells (sym h)
  where
    by : (all : List Cell) → position (λ c. bytes_eq name c.name) all ≡ Some at → IsSomeAnd (slice_get all at) (λ c. c.name ≡ name)
    by [] k = cc
    by (c ∷ rest) k =
        let here = position-Some (λ (x : Cell). bytes_eq name x.name) (c ∷ rest) at c k in
        rw (slice_get-get_or (c ∷ rest) at c here.0) (sym (same_bytes name _ here.1))

-- where there is no place, no cell has the name
pub none_has_name : (cells : List Cell) (name : List ℕ) (r : Option ℕ) → r ≡ position (λ c. bytes_eq name c.name) cells → IfNone r (All (λ c. c.name ≢ name) cells)
none_has_name cells name (Some at) h = tt
none_has_name cells name None h =
    All-weaker (λ (c : Cell). bytes_eq name c.name ≡ false) (λ (c : Cell). c.name ≢ name)
    (λ (c : Cell) e same. let equal : bytes_eq name c.name ≡ true = equal_bytes name c.name (sym same) in true≢false (sym equal ∙ e)) cells
    (position-None (λ (c : Cell). bytes_eq name c.name) cells (sym h))
