-- What holds of the cells of every library.
use Rattle.std.specs.Prelude.{◌≡◌, ℕ, ◌<◌, ◌≤◌, ◌++◌, ◌∷◌, [], true, List, length, codes, map, nat_eq, All, Option, Some}
use Rattle.std.specs.List.{IsDistinct}
use Rattle.std.specs.List.Sorted.{IsStrictlySortedBy}
use Rattle.std.specs.Ordering.{nat_cmp}
use Rattle.std.specs.Cmp.Lexicographic.{slice_cmp}
use Rattle.std.specs.Str.{bytes_eq}
use Rattle.cyc_text.specs.Name.{is_name}
use Rattle.toml.specs.Data.{Data, Members, no_members, member, get_member, as_table}
use Rattle.cell_arcs.specs.Steps.{◌>>?◌}
use Rattle.cell_arcs.specs.Library.{member_count, document_of}
use Rattle.cell_arcs.specs.declared.cells.Cell.{Cell}
use Rattle.cell_arcs.specs.declared.cells.CellArc.{CellArc}

-- the arc begins at one of the inputs, and its delays are in range
pub record IsArc (inputs : List (List ℕ)) (a : CellArc) : Type 0 where
  pub within : a.from < length inputs
  pub rise : a.rise ≤ 1000000
  pub fall : a.fall ≤ 1000000

-- no two arcs begin at one input
pub record AreArcs (inputs : List (List ℕ)) (arcs : List CellArc) : Type 0 where
  pub each : All (IsArc inputs) arcs
  pub distinct : IsDistinct nat_eq (map (λ a. a.from) arcs)

-- a cell of at most 16 inputs, whose pins, the inputs and then the output, are different names
pub record IsCell (c : Cell) : Type 0 where
  pub named : is_name c.name ≡ true
  pub few : length c.inputs ≤ 16
  pub names : All (λ p. is_name p ≡ true) (c.inputs ++ c.output ∷ [])
  pub distinct : IsDistinct bytes_eq (c.inputs ++ c.output ∷ [])
  pub arcs : AreArcs c.inputs c.arcs

-- the names in the order of their bytes, all different
abbrev pub AscendByName : List Cell → Type 0
AscendByName cells = IsStrictlySortedBy (slice_cmp nat_cmp) (map (λ c. c.name) cells)

-- at most 1,024 cells, each before the next in the order of their names
pub record IsLibrary (cells : List Cell) : Type 0 where
  pub few : length cells ≤ 1024
  pub ascend : AscendByName cells
  pub each : All IsCell cells

-- the keys of a table, in its order
abbrev pub member_keys : Members → List (List ℕ)
member_keys no_members = []
member_keys (member k d ms) = k ∷ member_keys ms

-- where the value is a table, its keys ascend in the order of their bytes
abbrev pub HasAscendingKeys : Option Data → Type 0
HasAscendingKeys found = (ms : Members) → found >>? as_table ≡ Some ms → IsStrictlySortedBy (slice_cmp nat_cmp) (member_keys ms)

-- the cells that a document lists are counted in the order of their names' bytes, wherever they stand in the text
abbrev pub CountsCellsByName : List ℕ → Type 0
CountsCellsByName bytes = (top : Members) → document_of bytes ≡ Some top → HasAscendingKeys (get_member (codes "cell") top)

-- the cells of a table
pub record AreCells (ms : Members) (cells : List Cell) : Type 0 where
  pub count : length cells ≡ member_count ms
  pub ascend : AscendByName cells
  pub each : All IsCell cells
