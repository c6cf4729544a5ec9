-- A hall as the value of a turn book: what a turn finds, and what it leaves.
use Rattle.std.specs.Prelude.{◌≡◌, ℕ, ◌<◌, ◌≤◌, length, Option, Some}
use Rattle.turn_book.specs.Views.{StartsWith}
use Rattle.turn_book.specs.declared.view.View.{View}
use Rattle.version_store.specs.declared.entry.HallAct.{HallAct}
use Rattle.version_store.specs.declared.state.HallItem.{HallItem}
use Rattle.version_store.specs.declared.state.HallOrigin.{HallOrigin}
use Rattle.version_store.specs.declared.state.HallState.{HallState}
use Rattle.version_store.specs.Halls.{origin_of, noted, row_at}

-- one more entry leaves the origin
abbrev pub KeepsOrigin : Type 0 → Type 0
KeepsOrigin R = (hall : HallState R) (session : ℕ) (act : HallAct) (row : Option R) → 0 < hall.room → origin_of (noted hall session act row) ≡ origin_of hall

-- a list of items that is shorter than the turns leaves room, where the hall was opened for as many calls as there are turns
abbrev pub FindsRoom : Type 0 → Type 0
FindsRoom R = (hall : HallState R) (turns : ℕ) → turns ≤ (origin_of hall).calls → length hall.items < turns → 0 < hall.room

-- a later hall has the rows of the one before at their numbers
abbrev pub KeepsRows : Type 0 → Type 0
KeepsRows R = (hall later : HallState R) (number : ℕ) (row : R) → later.base ≡ hall.base → StartsWith later.items hall.items
    → row_at hall number ≡ Some row → row_at later number ≡ Some row

-- all turns of a seat's book are no more than the calls that the hall was opened for
abbrev pub HasCalls : {R : Type 0} → View (HallOrigin R) (HallItem R) → Type 0
HasCalls {R} seat = (origin : HallOrigin R) × (seat.origin ≡ Some origin) × (seat.total ≤ origin.calls)
