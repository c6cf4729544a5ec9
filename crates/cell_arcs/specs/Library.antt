-- The cells that the text of a library lists, or its first fault. Cells, pins and arcs are counted from 1.
use Rattle.std.specs.Prelude.{ℕ, ◌+◌, ℤ, pos, negsuc, nat_lt, nat_le, not, if◌then◌else◌, List, [], ◌∷◌, ◌++◌, length, codes, Option, Some, None, option_map, Result, Ok, Err, position}
use Rattle.std.specs.List.{list_any, position_from}
use Rattle.std.specs.Str.{bytes_eq, is_utf8}
use Rattle.toml.specs.Data.{Data, Items, no_items, item, Members, no_members, member, get, get_member, as_str, as_integer, as_array, as_table}
use Rattle.toml.specs.Parse.{parse_document}
use Rattle.cyc_text.specs.Name.{is_name}
use Rattle.cyc_text.specs.declared.limits.Limit.TheVariants.{Cells, Inputs}
use Rattle.cell_arcs.specs.Shape.{ArcShape, CellShape}
use Rattle.cell_arcs.specs.Steps.{◌>>=◌, ◌>>?◌, or_fault, or_else, unless_fault}
use Rattle.cell_arcs.specs.declared.cells.Cell.{Cell}
use Rattle.cell_arcs.specs.declared.cells.CellArc.{CellArc}
use Rattle.cell_arcs.specs.declared.cells.Sense.{Sense}
use Rattle.cell_arcs.specs.declared.cells.Sense.TheVariants.{Pos, Neg, Non}
use Rattle.cell_arcs.specs.declared.faults.LibraryFault.{LibraryFault}
use Rattle.cell_arcs.specs.declared.faults.LibraryFault.TheVariants.{BadToml, BadShape, BadName, RepeatedPin, UnknownPin, RepeatedArc, BadSense, BadDelay, TooMany}

-- ---- the keys of an arc and of a cell, where each is there and of its kind

-- a key's string, where it is one
abbrev pub string_at : List ℕ → Data → Option (List ℕ)
string_at key d = get key d >>? as_str

-- a key's integer, where it is one
abbrev pub integer_at : List ℕ → Data → Option ℤ
integer_at key d = get key d >>? as_integer

-- a key's array, where it is one
abbrev pub array_at : List ℕ → Data → Option Items
array_at key d = get key d >>? as_array

-- the four keys of an arc
unfoldable pub arc_shape : Data → Option ArcShape
arc_shape d =
    string_at (codes "from") d >>? (λ f. string_at (codes "sense") d >>? (λ s.
    integer_at (codes "rise") d >>? (λ r. integer_at (codes "fall") d >>? (λ l.
    Some (record { from = f; sense = s; rise = r; fall = l })))))

-- what f reads of the items, where it reads each
module _ {A : Type 0} (f : Data → Option A) where
  abbrev pub each : Items → Option (List A)
  each no_items = Some []
  each (item d ds) = f d >>? (λ x. each ds >>? (λ xs. Some (x ∷ xs)))

-- the three keys of a cell
unfoldable pub cell_shape : Data → Option CellShape
cell_shape d =
    array_at (codes "inputs") d >>? each as_str >>? (λ i. string_at (codes "output") d >>? (λ o.
    array_at (codes "arcs") d >>? each arc_shape >>? (λ a.
    Some (record { inputs = i; output = o; arcs = a }))))

-- ---- pins

-- the position of the first pin that is no name
abbrev pub bad_name : List (List ℕ) → Option ℕ
bad_name pins = position_from (λ p. not (is_name p)) 1 pins

-- the position of the first name of the rest that stands before it
unfoldable pub repeat_after : List (List ℕ) → List (List ℕ) → Option ℕ
repeat_after before [] = None
repeat_after before (p ∷ rest) =
    if list_any (bytes_eq p) before then Some (length before + 1) else repeat_after (before ++ p ∷ []) rest

-- the position of the first pin that equals an earlier one
abbrev pub repeated_pin : List (List ℕ) → Option ℕ
repeated_pin pins = repeat_after [] pins

-- the first pin of the cell n that is no name, and else the first that equals an earlier one
unfoldable pub pin_fault : ℕ → List (List ℕ) → Option LibraryFault
pin_fault n pins = or_else (option_map (BadName n) (bad_name pins)) (option_map (RepeatedPin n) (repeated_pin pins))

-- ---- arcs

-- the sense that a word names
unfoldable pub sense_of : List ℕ → Option Sense
sense_of s =
    if bytes_eq s (codes "pos") then Some Pos
    else if bytes_eq s (codes "neg") then Some Neg
    else if bytes_eq s (codes "non") then Some Non
    else None

-- a delay in picoseconds within its range
unfoldable pub delay_of : ℤ → Option ℕ
delay_of (pos n) = if nat_le n 1000000 then Some n else None
delay_of (negsuc n) = None

-- the arc a of the cell n, behind the earlier ones
unfoldable pub arc_of : ℕ → List (List ℕ) → List ArcShape → ArcShape → Result CellArc LibraryFault
arc_of n inputs earlier a =
    let k = length earlier + 1 in
    or_fault (UnknownPin n k) (position (bytes_eq a.from) inputs) >>= (λ place.
    if list_any (λ b. bytes_eq a.from b.from) earlier then Err (RepeatedArc n k) else
    or_fault (BadSense n k) (sense_of a.sense) >>= (λ sense.
    or_fault (BadDelay n k) (delay_of a.rise) >>= (λ rise.
    or_fault (BadDelay n k) (delay_of a.fall) >>= (λ fall.
    Ok (record { from = place; sense = sense; rise = rise; fall = fall })))))

-- the arcs of the cell n that follow the earlier ones, each judged in turn
unfoldable pub arcs_after : ℕ → List (List ℕ) → List ArcShape → List ArcShape → Result (List CellArc) LibraryFault
arcs_after n inputs earlier [] = Ok []
arcs_after n inputs earlier (a ∷ rest) =
    arc_of n inputs earlier a >>= (λ x. arcs_after n inputs (earlier ++ a ∷ []) rest >>= (λ xs. Ok (x ∷ xs)))

-- the arcs of the cell n
abbrev pub arcs_of : ℕ → List (List ℕ) → List ArcShape → Result (List CellArc) LibraryFault
arcs_of n inputs arcs = arcs_after n inputs [] arcs

-- ---- cells

-- the cell n, of this name and these keys
unfoldable pub cell_from : ℕ → List ℕ → CellShape → Result Cell LibraryFault
cell_from n name s =
    if nat_lt 16 (length s.inputs) then Err (TooMany Inputs n) else
    unless_fault (pin_fault n (s.inputs ++ s.output ∷ []))
    (arcs_of n s.inputs s.arcs >>= (λ arcs. Ok (record { name = name; inputs = s.inputs; output = s.output; arcs = arcs })))

-- the cell n, of this name
unfoldable pub cell_of : ℕ → List ℕ → Data → Result Cell LibraryFault
cell_of n name d =
    if is_name name then or_fault (BadShape n) (cell_shape d) >>= cell_from n name else Err (BadName n 0)

-- the cells of a table, the first of which is the cell n
unfoldable pub cells_from : ℕ → Members → Result (List Cell) LibraryFault
cells_from n no_members = Ok []
cells_from n (member k d ms) =
    cell_of n k d >>= (λ c. cells_from (n + 1) ms >>= (λ cs. Ok (c ∷ cs)))

-- the number of a table's members
abbrev pub member_count : Members → ℕ
member_count no_members = 0
member_count (member k d ms) = 1 + member_count ms

-- the cells that the key `cell` holds, where it is there
unfoldable pub cells_at : Option Data → Result (List Cell) LibraryFault
cells_at None = Ok []
cells_at (Some d) =
    or_fault (BadShape 0) (as_table d) >>= (λ ms. if nat_lt 1024 (member_count ms) then Err (TooMany Cells 0) else cells_from 1 ms)

-- the document that the bytes write, if they are UTF-8 and write one
abbrev pub document_of : List ℕ → Option Members
document_of bytes = if is_utf8 bytes then parse_document bytes else None

-- the cells of a library, or the first fault
unfoldable pub library_of : List ℕ → Result (List Cell) LibraryFault
library_of bytes =
    or_fault BadToml (document_of bytes) >>= (λ top. cells_at (get_member (codes "cell") top))
