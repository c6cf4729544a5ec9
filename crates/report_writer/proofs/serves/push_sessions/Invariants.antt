use Rattle.std.proofs.Common.{◌≡◌, ◌+◌, ◌++◌, drop}
use Rattle.report_writer.specs.ServeText as spec
use Rattle.report_writer.proofs.serves.push_sessions.Given as goal

abbrev pub invariant-loop-at : goal.invariant-loop-at
invariant-loop-at l = l.text.items ++ spec.session_texts (l.at + 1) (drop l.at l.sessions) ≡ l.fn.text.items ++ spec.session_texts 1 l.sessions
