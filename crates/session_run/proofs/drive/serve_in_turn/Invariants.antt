use Rattle.std.proofs.Common.{◌≡◌, ◌+◌, length}
use Rattle.session_run.specs.InTurn.{AreReady, calls_of}
use Rattle.session_run.proofs.drive.serve_in_turn.Given as goal

abbrev pub invariant-loop-at : goal.invariant-loop-at
invariant-loop-at g l = record {
  seated : AreReady l.hall l.scripts l.players.items l.at;
  base : l.hall.base ≡ l.initial.hall.base;
  room : calls_of l.scripts ≡ length l.hall.items + l.hall.room;
}
