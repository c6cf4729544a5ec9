-- What contracts see of a book, a seat and a turn.
use Rattle.std.specs.Prelude.{◌≡◌, List, [], Some, unwrap_or}
use Rattle.turn_book.specs.declared.view.View.{View}
use Rattle.turn_book.specs.declared.view.Stage.TheVariants.{Idle}
use Rattle.turn_book.specs.declared.view.Role.TheVariants.{Opening, Session}
use Rattle.turn_book.specs.declared.book.Book.{Book}
use Rattle.turn_book.specs.declared.book.BookSeat.{BookSeat}
use Rattle.turn_book.specs.declared.book.Turn.{Turn}
use Rattle.turn_book.specs.declared.stands.Stands.{Ghosts}
use Rattle.turn_book.specs.Views.{turn_in}

module _ {V O E : Type 0} where
  -- what the turn's seat knew when the turn was taken
  abbrev pub turn_view : Turn V O E → View O E
  turn_view turn = turn.at.value.me.0

  -- the turn's list: the one that the value stood for when the turn was taken
  abbrev pub turn_list : Turn V O E → List E
  turn_list turn = unwrap_or (turn_in (turn_view turn).stage) []

  -- the turn's value
  abbrev pub turn_value : Turn V O E → V
  turn_value turn = turn.value

  -- the turn with another value
  abbrev pub with_value : Turn V O E → V → Turn V O E
  with_value turn value = record turn { value = value }

module _ {V O E : Type 0} {g : Ghosts V O E} where
  -- what the seat knows
  abbrev pub view : BookSeat V O E g → View O E
  view seat = seat.seat.me.0

  -- the seat belongs to the book
  abbrev pub IsSeatOf : Book V O E → BookSeat V O E g → Type 0
  IsSeatOf book seat = seat.seat.table_id ≡ book.table.shared.table_id

  -- the seat is the opening seat
  abbrev pub IsOpening : BookSeat V O E g → Type 0
  IsOpening seat = (view seat).role ≡ Opening

  -- the seat is a session's
  abbrev pub IsSession : BookSeat V O E g → Type 0
  IsSession seat = (view seat).role ≡ Session

  -- the seat holds no turn
  abbrev pub HoldsNoTurn : BookSeat V O E g → Type 0
  HoldsNoTurn seat = (view seat).stage ≡ Idle

  -- the turn is of the seat's book and number, and it is the one that the seat holds
  abbrev pub IsTurnOf : Turn V O E → BookSeat V O E g → Type 0
  IsTurnOf turn seat =
      (turn.at.value.table_id ≡ seat.seat.table_id)
      × ((turn_view turn).number ≡ (view seat).number)
      × (turn_in (view seat).stage ≡ Some (turn_list turn))
