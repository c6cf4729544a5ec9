-- Halls after further calls.
use Rattle.std.proofs.Common.{◌≡◌, ℕ, zero, suc, ◌+◌, ◌-◌, List, [], ◌∷◌, ◌++◌, length, Some, ap, ◌∙◌, arith, length-append}
use Rattle.std.specs.Prelude.{slice_get}
use Rattle.std.proofs.lemmas.List.Elements.{filter_map-append}
use Rattle.version_store.specs.declared.state.HallItem.{HallItem}
use Rattle.version_store.specs.Halls.{item, rows_of}
use Rattle.version_store.specs.Turns.{KeepsOrigin, FindsRoom, KeepsRows}

-- what stands at a number of a list stands there in a longer one
get_front : {A : Type 0} (xs ys : List A) (n : ℕ) (x : A) → slice_get xs n ≡ Some x → slice_get (xs ++ ys) n ≡ Some x
get_front [] ys n x e = absurd (cc)
get_front (y ∷ xs) ys zero x e = e
get_front (y ∷ xs) ys (suc n) x e = get_front xs ys n x e

pub origin_kept : (R : Type 0) → KeepsOrigin R
origin_kept R hall session act row some =
    let more = item (record { session = session; act = act }) row ∷ [] in
    let calls : length (hall.items ++ more) + (hall.room - 1) ≡ length hall.items + hall.room = omega (arith, length-append hall.items more) in
    ap (λ (n : ℕ). record { base = hall.base; calls = n }) calls

pub room_found : (R : Type 0) → FindsRoom R
room_found R hall turns enough shorter = omega arith

pub rows_kept : (R : Type 0) → KeepsRows R
rows_kept R hall later number row base more known =
    let rows : rows_of later.items ≡ rows_of hall.items ++ rows_of more.0 = ap rows_of more.1 ∙ filter_map-append (λ (i : HallItem R). i.row) hall.items more.0 in
    (λ i. slice_get (base i ∷ rows i) number) ∙ get_front (hall.base ∷ rows_of hall.items) (rows_of more.0) number row known
