-- A hall as its base row, its items and the room that is left.
use Rattle.std.specs.Prelude.{◌≡◌, ℕ, ◌+◌, ◌-◌, ◌<◌, Bool, false, ◌&&◌, ◌==◌, nat_lt, if◌then◌else◌, is_some, ⊤}
use Rattle.std.specs.Prelude.{List, [], ◌∷◌, ◌++◌, length, slice_get, filter_map, Option, Some, None}
use Rattle.version_store.specs.declared.entry.HallEntry.{HallEntry}
use Rattle.version_store.specs.declared.entry.HallAct.{HallAct}
use Rattle.version_store.specs.declared.entry.HallAct.TheVariants.{Latest, At, Publish, Pass}
use Rattle.version_store.specs.declared.state.HallItem.{HallItem}
use Rattle.version_store.specs.declared.state.HallOrigin.{HallOrigin}
use Rattle.version_store.specs.declared.state.HallState.{HallState}

-- the most rows of a hall, the base among them
abbrev pub row_limit : ℕ
row_limit = 256

-- whether the act appends a row where the newest has this number: a publish on it, while fewer rows stand than may
abbrev pub takes : ℕ → HallAct → Bool
takes head Latest = false
takes head (At number) = false
takes head (Publish base) = (base == head) && nat_lt (head + 1) row_limit
takes head Pass = false

-- the number of the newest row after the act
abbrev pub head_after : ℕ → HallAct → ℕ
head_after head act = if takes head act then head + 1 else head

-- how many of the entries append a row
abbrev pub took : ℕ → List HallEntry → ℕ
took head [] = 0
took head (e ∷ es) = if takes head e.act then took (head + 1) es + 1 else took head es

module _ {R : Type 0} where
  -- an entry with the row that it appended, if any
  abbrev pub item : HallEntry → Option R → HallItem R
  item entry row = record { entry = entry; row = row }

  -- the entries, and beside each that appended a row that row
  abbrev pub items_from : ℕ → List R → List HallEntry → List (HallItem R)
  items_from head rows [] = []
  items_from head [] (e ∷ es) = item e None ∷ items_from head [] es
  items_from head (r ∷ rs) (e ∷ es) =
      if takes head e.act
      then (item e (Some r) ∷ items_from (head + 1) rs es)
      else (item e None ∷ items_from head (r ∷ rs) es)

  -- an item has a row exactly where its entry is a publish on the newest row and fewer rows stood than may
  abbrev pub HasRows : ℕ → List (HallItem R) → Type 0
  HasRows head [] = ⊤
  HasRows head (i ∷ is) = (is_some i.row ≡ takes head i.entry.act) × HasRows (head_after head i.entry.act) is

  -- the rows of the items
  abbrev pub rows_of : List (HallItem R) → List R
  rows_of items = filter_map (λ i. i.row) items

  -- a hall with these rows after the base, these entries and this room
  abbrev pub state_of : R → List R → List HallEntry → ℕ → HallState R
  state_of base rows entries room = record { base = base; items = items_from 0 rows entries; room = room }

  -- a new hall
  abbrev pub opened : R → ℕ → HallState R
  opened base calls = record { base = base; items = []; room = calls }

  -- what the hall was opened with: its base, and as many calls as it has entries and room left
  abbrev pub origin_of : HallState R → HallOrigin R
  origin_of hall = record { base = hall.base; calls = length hall.items + hall.room }

  -- the number of the newest row
  abbrev pub head_of : HallState R → ℕ
  head_of hall = length (rows_of hall.items)

  -- the row of a number: the base for 0, and then the rows of the items
  abbrev pub row_at : HallState R → ℕ → Option R
  row_at hall number = slice_get (hall.base ∷ rows_of hall.items) number

  -- the row follows the hall's row of that number
  abbrev pub FollowsRow : (R → R → Type 0) → HallState R → ℕ → R → Type 0
  FollowsRow follows hall number row = (parent : R) → row_at hall number ≡ Some parent → follows row parent

  -- the hall with one more entry, and with the row that it appends, if any
  abbrev pub noted : HallState R → ℕ → HallAct → Option R → HallState R
  noted hall session act row = record {
    base = hall.base;
    items = hall.items ++ item (record { session = session; act = act }) row ∷ [];
    room = hall.room - 1;
  }

  -- the row that a publish on this base appends, if any
  abbrev pub published : HallState R → ℕ → R → Option R
  published hall base row = if takes (head_of hall) (Publish base) then Some row else None

  -- each row follows the row before it
  abbrev pub Chain : (R → R → Type 0) → R → List R → Type 0
  Chain follows parent [] = ⊤
  Chain follows parent (r ∷ rs) = follows r parent × Chain follows r rs

  -- what holds of every hall by its type, where so many rows stand after the base: just as many entries append a row
  pub record IsKept (follows : R → R → Type 0) (base : R) (rows : List R) (entries : List HallEntry) (count : ℕ) : Type 0 where
    pub count_is : count ≡ length rows
    pub few : count < row_limit
    pub all : took 0 entries ≡ count
    pub chain : Chain follows base rows
