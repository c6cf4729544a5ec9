use Rattle.std.proofs.Common.{◌≡◌, ◌+◌, List, Option, length, vec_len, vec_capacity}
use Rattle.turn_book.specs.Seats.{view, IsSeatOf}
use Rattle.session_script.specs.declared.calls.Call.{Call}
use Rattle.session_run.specs.Seats.{Origin}
use Rattle.session_run.specs.Jobs.{IsDone, Each, Joining, IsTop}
use Rattle.session_run.proofs.threads.splits.join_all.Given as goal

abbrev pub invariant-loop-done : goal.invariant-loop-done
invariant-loop-done l = record {
  here : IsSeatOf l.book l.seat;
  top : IsTop (view l.seat) (view l.initial.seat).given;
  joining : (origin : Option Origin) (scripts : List (List Call)) → Each (IsDone l.book origin) 1 scripts l.fn.dones.items → Joining l.book origin (view l.seat) 1 scripts l.rans.items l.done-iterator.rest.items;
  count : vec_len l.rans + length l.done-iterator.rest.items ≡ vec_capacity l.rans;
}
