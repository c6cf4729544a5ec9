use Rattle.std.proofs.Common.{◌≡◌, ◌+◌, ◌≤◌, ℕ, Some}
use Rattle.std.specs.Prelude.{replicate}
use Rattle.turn_book.specs.Seats.{view, IsSeatOf, IsSession, HoldsNoTurn}
use Rattle.turn_book.proofs.book.tests.all_turns.Given as goal

abbrev pub invariant-loop : goal.invariant-loop
invariant-loop g l = record {
  here : IsSeatOf l.book l.seat;
  session : IsSession l.seat;
  idle : HoldsNoTurn l.seat;
  number : (view l.seat).number ≡ l.number;
  left : (view l.seat).left + l.counter ≡ l.turns;
  made : (view l.seat).made ≡ replicate l.counter l.number;
  room : (room : ℕ) × ((view l.seat).origin ≡ Some room) × ((view l.seat).total ≤ room);
}
