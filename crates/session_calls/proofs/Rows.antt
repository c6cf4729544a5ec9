-- The rows of a hall, and the row that a session has pinned.
use Rattle.std.proofs.Common.{◌≡◌, ℕ, zero, suc, ◌<◌, ◌≤◌, List, [], ◌∷◌, ◌++◌, map, length, Option, Some, None, refl, sym, ap, ◌∙◌, arith}
use Rattle.std.specs.Prelude.{MatchOption, slice_get, ⊤, option_map, option_and_then, unwrap_or}
use Rattle.std.proofs.lemmas.List.{append-nil, length-map}
use Rattle.std.proofs.lemmas.List.Elements.{filter_map-append}
use Rattle.cell_arcs.specs.declared.cells.Cell.{Cell}
use Rattle.netlist_model.specs.Circuit.{Circuit, nothing}
use Rattle.version_store.specs.declared.entry.HallAct.{HallAct}
use Rattle.version_store.specs.declared.state.HallItem.{HallItem}
use Rattle.version_store.specs.declared.state.HallState.{HallState}
use Rattle.version_store.specs.Halls.{Chain, item, noted, rows_of}
use Rattle.version_store.specs.Halls as halls
use Rattle.session_machine.specs.Table.{pinned}
use Rattle.session_machine.specs.Versions.{head_of, newest}
use Rattle.pinned_reader.specs.Rows.{RowState, IsAfter}
use Rattle.query_replies.specs.Readings.{Analyses}
use Rattle.session_calls.specs.States.{SessionState, holding_of, net_of, nets, rows, Knows, IsOver}

pub get_map : {A B : Type 0} (f : A → B) (xs : List A) (n : ℕ) (x : A) → slice_get xs n ≡ Some x → slice_get (map f xs) n ≡ Some (f x)
get_map f [] n x e = absurd (cc)
get_map f (y ∷ xs) zero x e = let same : y ≡ x = cc in ap (λ z. Some (f z)) same
get_map f (y ∷ xs) (suc n) x e = get_map f xs n x e

pinned_by : (rs : List RowState) (pin : Option (ℕ × RowState)) → MatchOption pin ⊤ (λ p. slice_get rs p.0 ≡ Some p.1)
    → option_and_then (slice_get (nets rs)) (option_map (λ p. p.0) pin) ≡ option_map (λ p. p.1.netlist) pin
pinned_by rs None k = refl
pinned_by rs (Some p) k = get_map (λ (r : RowState). r.netlist) rs p.0 p.1 k

pub pinned_is : (rs : List RowState) (s : SessionState) → Knows rs s → pinned (nets rs) (holding_of s) ≡ net_of s
pinned_is rs s k = pinned_by rs s.pin k

pub head_is : (h : HallState RowState) → head_of (nets (rows h)) ≡ halls.head_of h
head_is h = let l = length-map (rows_of h.items) (λ (r : RowState). r.netlist) in omega arith

pub newest_is : (rs : List RowState) (n : ℕ) (row : RowState) → head_of (nets rs) ≡ n → slice_get rs n ≡ Some row → newest (nets rs) ≡ row.netlist
newest_is rs n row at e = ap (λ (o : Option Circuit). unwrap_or o nothing) (ap (slice_get (nets rs)) at ∙ get_map (λ (r : RowState). r.netlist) rs n row e)

pub rows_same : (h : HallState RowState) (n : ℕ) (a : HallAct) → rows (noted h n a None) ≡ rows h
rows_same h n a = ap (λ l. h.base ∷ l) (filter_map-append (λ (i : HallItem RowState). i.row) h.items (item (record { session = n; act = a }) None ∷ []) ∙ append-nil (rows_of h.items))

pub rows_more : (h : HallState RowState) (n : ℕ) (a : HallAct) (r : RowState) → rows (noted h n a (Some r)) ≡ rows h ++ r ∷ []
rows_more h n a r = ap (λ l. h.base ∷ l) (filter_map-append (λ (i : HallItem RowState). i.row) h.items (item (record { session = n; act = a }) (Some r) ∷ []))

-- there is a newest row
pub head_row : {A : Type 0} (base : A) (rs : List A) → (r : A) × (slice_get (base ∷ rs) (length rs) ≡ Some r)
head_row base [] = (base, refl)
head_row base (r ∷ rs) = head_row r rs

pub last_row : {A : Type 0} (rs : List A) (r : A) → slice_get (rs ++ r ∷ []) (length rs) ≡ Some r
last_row [] r = refl
last_row (x ∷ rs) r = last_row rs r

below : {A : Type 0} (xs : List A) (n : ℕ) (x : A) → slice_get xs n ≡ Some x → n < length xs
below [] n x e = absurd (cc)
below (y ∷ xs) zero x e = omega arith
below (y ∷ xs) (suc n) x e = let h = below xs n x e in omega arith

-- a row that is found has a number up to the newest
pub within : (h : HallState RowState) (n : ℕ) (r : RowState) → slice_get (rows h) n ≡ Some r → n ≤ halls.head_of h
within h n r e = let l = below (rows h) n r e in omega arith

-- rows that follow one another are over one library
pub one_library : (library : List Cell) (base : RowState) (rs : List RowState) → Chain IsAfter base rs → base.library ≡ library
    → (n : ℕ) (r : RowState) → slice_get (base ∷ rs) n ≡ Some r → r.library ≡ library
one_library library base [] chain is zero r e = let same : base ≡ r = cc in ap (λ (x : RowState). x.library) (sym same) ∙ is
one_library library base [] chain is (suc n) r e = absurd (cc)
one_library library base (x ∷ rs) chain is zero r e = let same : base ≡ r = cc in ap (λ (x : RowState). x.library) (sym same) ∙ is
one_library library base (x ∷ rs) chain is (suc n) r e = one_library library x rs chain.1 (chain.0.library ∙ is) n r e

over_by : (all : Analyses) (base : RowState) (rs : List RowState) (pin : Option (ℕ × RowState)) → Chain IsAfter base rs → base.library ≡ all.library
    → MatchOption pin ⊤ (λ p. slice_get (base ∷ rs) p.0 ≡ Some p.1) → MatchOption pin ⊤ (λ p. p.1.library ≡ all.library)
over_by all base rs None chain is k = tt
over_by all base rs (Some p) chain is k = one_library all.library base rs chain is p.0 p.1 k

-- so is the row that a session has pinned
pub over_rows : (all : Analyses) (base : RowState) (rs : List RowState) (s : SessionState) → Chain IsAfter base rs → base.library ≡ all.library
    → Knows (base ∷ rs) s → IsOver all s
over_rows all base rs s chain is k = over_by all base rs s.pin chain is k
