use Rattle.std.proofs.Common.{◌<◌, ◌≤◌, ℕ, List, length, get_or}
use Rattle.session_script.specs.declared.calls.Call.{Call}
use Rattle.session_run.proofs.drive.longest.Given as goal

abbrev pub invariant-loop-script : goal.invariant-loop-script
invariant-loop-script l = (k : ℕ) (d : List Call) → k < l.script-index → length (get_or l.scripts k d) ≤ l.most
