use Rattle.std.proofs.Common.{◌≡◌, Some, drop}
use Rattle.turn_book.specs.Seats.{view, IsSeatOf}
use Rattle.query_replies.specs.Readings.{Analyses}
use Rattle.session_run.specs.Seats.{Origin, IsAtRest, StartsFrom}
use Rattle.session_run.specs.Serving.{IsServing, Follow}
use Rattle.session_run.proofs.threads.serve.serve_session.Given as goal

abbrev pub invariant-loop-call : goal.invariant-loop-call
invariant-loop-call g l = record {
  here : IsSeatOf l.book l.seat;
  seat : IsAtRest (view l.seat) l.number;
  origin : (view l.seat).origin ≡ (view l.initial.seat).origin;
  total : (view l.seat).total ≡ (view l.initial.seat).total;
  follow : (o : Origin) → (view l.initial.seat).origin ≡ Some o → Follow o.base (view l.initial.seat) → Follow o.base (view l.seat);
  number : l.session.number ≡ l.number;
  serving : (all : Analyses) (o : Origin) → StartsFrom all (view l.initial.seat) o →
      IsServing all o.base l.number l.script (view l.seat) l.session l.ran.replies.items l.ran.places.items (drop l.call-index l.script);
}
