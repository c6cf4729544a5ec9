use Rattle.std.proofs.Common.{◌≡◌, [], length, take, drop, vec_len, vec_capacity}
use Rattle.turn_book.specs.declared.view.Role.TheVariants.{Opening}
use Rattle.turn_book.specs.Seats.{view, IsSeatOf}
use Rattle.session_run.specs.InTurn.{calls_of}
use Rattle.session_run.specs.Jobs.{IsJob, Each}
use Rattle.session_run.proofs.threads.splits.split_all.Given as goal

abbrev pub invariant-loop-script : goal.invariant-loop-script
invariant-loop-script l = record {
  here : IsSeatOf l.book l.seat;
  role : (view l.seat).role ≡ Opening;
  given : (view l.seat).given ≡ l.script-index;
  number : l.number ≡ l.script-index;
  seen : (view l.seat).seen ≡ [];
  ended : (view l.seat).ended ≡ [];
  left : (view l.seat).left ≡ calls_of (drop l.script-index l.scripts);
  origin : (view l.seat).origin ≡ (view l.initial.seat).origin;
  total : (view l.seat).total ≡ (view l.initial.seat).total;
  count : vec_len l.jobs ≡ l.script-index;
  room : vec_capacity l.jobs ≡ length l.scripts;
  jobs : Each (IsJob l.book (view l.initial.seat).origin) 1 (take l.script-index l.scripts) l.jobs.items;
}
