use Rattle.std.proofs.Common.{◌≡◌, ◌+◌, ◌≤◌, drop}
use Rattle.session_script.specs.Calls.{is_shared}
use Rattle.session_machine.specs.Orders.{shared_calls}
use Rattle.session_run.proofs.counting.count_shared.Given as goal

abbrev pub invariant-loop-call : goal.invariant-loop-call
invariant-loop-call l = record { within : l.count ≤ l.call-index; sum_is : l.count + shared_calls is_shared (drop l.call-index l.script) ≡ shared_calls is_shared l.script }
