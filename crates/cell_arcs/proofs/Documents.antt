-- What the reader of documents says, beside the definition.
use Rattle.std.proofs.Common.{◌≡◌, ℕ, ◌≤◌, ◌<◌, List, [], ◌∷◌, length, Bool, true, false, Some, None, Ok, Err, Global, String, string_bytes, refl, ap, sym, ◌∙◌, arith, if◌then◌else◌, nat_cmp, Less, nat_lt, subst}
use Rattle.std.specs.List.{AllByRecursion}
use Rattle.std.specs.List.Sorted.{IsStrictlySortedBy}
use Rattle.std.specs.Map.{keys_of}
use Rattle.std.specs.String.{string_cmp}
use Rattle.std.specs.Cmp.Lexicographic.{slice_cmp}
use Rattle.std.specs.Str.{IsUtf8, is_utf8}
use Rattle.std.proofs.lemmas.Str.{IsUtf8-from_is_utf8, is_utf8-from_IsUtf8}
use Rattle.toml.specs.Data.{Members, no_members, member}
use Rattle.toml.specs.Parse.{parse_document}
use Rattle.toml.specs.View.{members_view}
use Rattle.toml.specs.declared.value.Value.{Value}
use Rattle.std.proofs.lemmas.Bool.Decides.{nat_tests}
use Rattle.std.proofs.lemmas.List.{length-map}
use Rattle.std.proofs.lemmas.List.Elements.{All-nil}
use Rattle.toml.specs.Data.{Data, as_table}
use Rattle.cell_arcs.specs.declared.cells.Cell.{Cell}
use Rattle.cyc_text.specs.declared.limits.Limit.TheVariants.{Cells}
use Rattle.cell_arcs.specs.declared.faults.LibraryFault.TheVariants.{TooMany}
use Rattle.cell_arcs.specs.IsLibrary.{IsCell, IsLibrary, AreCells, member_keys, HasAscendingKeys}
use Rattle.cell_arcs.specs.Library.{document_of, member_count, cells_from, cells_at}
use Rattle.cell_arcs.proofs.Sound.{cells_sound}

abbrev Entry : Type 0
Entry = String Global × Value

pub document_read : (bytes : List ℕ) (ms : Members) → IsUtf8 bytes → parse_document bytes ≡ Some ms → document_of bytes ≡ Some ms
document_read bytes ms u h = rw (is_utf8-from_IsUtf8 bytes u) h

pub document_refused : (bytes : List ℕ) → (IsUtf8 bytes → parse_document bytes ≡ None) → document_of bytes ≡ None
document_refused bytes h = by (is_utf8 bytes) (λ e. h (IsUtf8-from_is_utf8 bytes e))
  where
    by : (b : Bool) → (b ≡ true → parse_document bytes ≡ None) → (if b then parse_document bytes else None) ≡ None
    by true k = k refl
    by false k = refl

-- how many members a table has, and the order of their keys
pub member_count-view : (es : List Entry) → member_count (members_view es) ≡ length es
member_count-view [] = refl
member_count-view (e ∷ es) = omega (arith, member_count-view es)

below_keys : (k : String Global) (es : List Entry) → AllByRecursion (λ y. string_cmp k y ≡ Less) (keys_of es) → AllByRecursion (λ y. slice_cmp nat_cmp (string_bytes k) y ≡ Less) (member_keys (members_view es))
below_keys k [] h = tt
below_keys k (e ∷ es) h = (h.0, below_keys k es h.1)

pub member_keys-ascend : (es : List Entry) → IsStrictlySortedBy string_cmp (keys_of es) → IsStrictlySortedBy (slice_cmp nat_cmp) (member_keys (members_view es))
unfolding IsStrictlySortedBy
member_keys-ascend [] h = tt
member_keys-ascend (e ∷ es) h = (below_keys e.0 es h.0, member_keys-ascend es h.1)

pub length-member_keys : (ms : Members) → length (member_keys ms) ≡ member_count ms
length-member_keys no_members = refl
length-member_keys (member k d ms) = omega (arith, length-member_keys ms)

-- the cells of a map in order are those of its table
pub cells_of_table : (es : List Entry) (cells : List Cell) → cells_from 1 (members_view es) ≡ Ok cells → IsStrictlySortedBy string_cmp (keys_of es) → AreCells (members_view es) cells
cells_of_table es cells h sorted =
    let (each, names) = cells_sound 1 (members_view es) cells h in
    record {
      count = sym (length-map cells (λ (c : Cell). c.name)) ∙ ap length names ∙ length-member_keys (members_view es);
      ascend = rw names (member_keys-ascend es sorted);
      each = each;
    }

pub library_from : (ms : Members) (cells : List Cell) → member_count ms ≤ 1024 → AreCells ms cells → IsLibrary cells
library_from ms cells few a = record { few = omega (arith, a.count); ascend = a.ascend; each = a.each }

pub no_cells : IsLibrary []
unfolding IsStrictlySortedBy
no_cells = record { few = omega arith; ascend = tt; each = All-nil IsCell }

-- the two outcomes at a table
pub too_many : (d : Data) (ms : Members) → Some ms ≡ as_table d → 1024 < member_count ms → cells_at (Some d) ≡ Err (TooMany Cells 0)
unfolding cells_at
too_many d ms t many =
    let test : nat_lt 1024 (member_count ms) ≡ true = grind (arith, nat_tests) in
    rw (← t, test) refl

pub few_enough : (d : Data) (ms : Members) → Some ms ≡ as_table d → member_count ms ≤ 1024 → cells_at (Some d) ≡ cells_from 1 ms
unfolding cells_at
few_enough d ms t few =
    let test : nat_lt 1024 (member_count ms) ≡ false = grind (arith, nat_tests) in
    rw (← t, test) refl

-- the keys of what is no table, and of a table
pub no_keys : HasAscendingKeys None
no_keys ms h = cc

pub no_table_keys : (d : Data) → None ≡ as_table d → HasAscendingKeys (Some d)
no_table_keys d none ms h = cc

pub table_keys : (d : Data) (es : List Entry) → Some (members_view es) ≡ as_table d → IsStrictlySortedBy string_cmp (keys_of es) → HasAscendingKeys (Some d)
table_keys d es t sorted ms h =
    let same : members_view es ≡ ms = cc in
    subst (λ keys. IsStrictlySortedBy (slice_cmp nat_cmp) (member_keys keys)) same (member_keys-ascend es sorted)
