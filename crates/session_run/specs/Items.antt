-- The items of a hall as places of an order.
use Rattle.std.specs.Prelude.{ℕ, ◌+◌, ◌==◌, if◌then◌else◌, List, [], ◌∷◌, map, option_map}
use Rattle.version_store.specs.declared.entry.HallAct.{HallAct}
use Rattle.version_store.specs.declared.state.HallItem.{HallItem}
use Rattle.session_machine.specs.Alone.{Place}
use Rattle.session_machine.specs.Versions.{Version}
use Rattle.pinned_reader.specs.Rows.{RowState}

abbrev pub Item : Type 0
Item = HallItem RowState

-- the session that made the call of an item
abbrev pub session_of : Item → ℕ
session_of i = i.entry.session

-- its place: the session, and the edits of the version that it published, if any
abbrev pub place_of : Item → Place Version
place_of i = record { session = i.entry.session; gives = option_map (λ r. r.edits) i.row }

abbrev pub places_in : List Item → List (Place Version)
places_in items = map place_of items

-- what was noted of each item
abbrev pub acts_in : List Item → List HallAct
acts_in items = map (λ i. i.entry.act) items

-- where a session's items stand, counted from a number on
abbrev pub positions : ℕ → ℕ → List Item → List ℕ
positions session at [] = []
positions session at (i ∷ items) =
    if i.entry.session == session then at ∷ positions session (at + 1) items else positions session (at + 1) items
