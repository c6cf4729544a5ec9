use Rattle.std.proofs.Common.{◌≡◌, ◌<◌, ℕ, List, [], length, get_or, vec_len, vec_capacity}
use Rattle.session_script.specs.declared.calls.Call.{Call}
use Rattle.pinned_reader.specs.Rows.{RowState}
use Rattle.query_replies.specs.Readings.{Analyses}
use Rattle.session_run.specs.declared.players.Player.{Player}
use Rattle.session_run.specs.InTurn.{Sits}
use Rattle.session_run.proofs.drive.seat_all.Given as goal

abbrev pub invariant-loop-script : goal.invariant-loop-script
invariant-loop-script l = record {
  number : l.number ≡ l.script-index;
  count : vec_len l.players ≡ l.script-index;
  many : length l.players.items ≡ l.script-index;
  room : vec_capacity l.players ≡ length l.scripts;
  sit : (all : Analyses) (base : RowState) (k : ℕ) (x : List Call) (p : Player) → k < l.script-index → Sits all base [] 0 k (get_or l.scripts k x) (get_or l.players.items k p);
}
