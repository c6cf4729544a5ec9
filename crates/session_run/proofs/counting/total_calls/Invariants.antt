use Rattle.std.proofs.Common.{◌≡◌, ◌+◌, drop}
use Rattle.session_run.specs.InTurn.{calls_of}
use Rattle.session_run.proofs.counting.total_calls.Given as goal

abbrev pub invariant-loop-script : goal.invariant-loop-script
invariant-loop-script l = l.total + calls_of (drop l.script-index l.scripts) ≡ calls_of l.scripts
