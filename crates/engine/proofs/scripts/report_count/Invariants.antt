use Rattle.std.proofs.Common.{◌≡◌, count_by, take}
use Rattle.session_script.specs.Calls.{is_report}
use Rattle.engine.proofs.scripts.report_count.Given as goal

abbrev pub invariant-loop-call : goal.invariant-loop-call
invariant-loop-call l = l.count ≡ count_by is_report (take l.call-index l.calls)
