-- A seat of the tests' book before and after its turns.
use Rattle.std.specs.Prelude.{◌≡◌, ℕ, ◌≤◌, List, Some}
use Rattle.turn_book.specs.declared.book.Book.{Book}
use Rattle.turn_book.specs.declared.book.BookSeat.{BookSeat}
use Rattle.turn_book.specs.declared.stands.Stands.{Ghosts}
use Rattle.turn_book.specs.Seats.{view, IsSeatOf, IsSession, HoldsNoTurn}

-- a session's seat of the book with this number, so many turns left and these entries made; the origin has room for all turns
abbrev pub IsReady : {V E : Type 0} {g : Ghosts V ℕ E} → Book V ℕ E → BookSeat V ℕ E g → ℕ → ℕ → List E → Type 0
IsReady book seat number turns made =
    IsSeatOf book seat × IsSession seat × HoldsNoTurn seat
    × ((view seat).number ≡ number) × ((view seat).left ≡ turns) × ((view seat).made ≡ made)
    × ((room : ℕ) × ((view seat).origin ≡ Some room) × ((view seat).total ≤ room))
