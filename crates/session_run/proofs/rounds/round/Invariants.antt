use Rattle.std.proofs.Common.{◌≡◌, ◌+◌, length}
use Rattle.query_replies.specs.Readings.{Analyses}
use Rattle.session_run.specs.InTurn.{AreSeated, calls_of}
use Rattle.session_run.proofs.rounds.round.Given as goal

abbrev pub invariant-loop-i : goal.invariant-loop-i
invariant-loop-i g l = record {
  seated : (all : Analyses) → l.initial.hall.base.library ≡ all.library → AreSeated all l.hall.base l.hall.items l.scripts l.players l.i l.at;
  base : l.hall.base ≡ l.initial.hall.base;
  room : calls_of l.scripts ≡ length l.hall.items + l.hall.room;
}
