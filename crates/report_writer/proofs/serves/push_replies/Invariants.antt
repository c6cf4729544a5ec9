use Rattle.std.proofs.Common.{◌≡◌, ◌+◌, ◌++◌, drop}
use Rattle.report_writer.specs.ServeText as spec
use Rattle.report_writer.proofs.serves.push_replies.Given as goal

abbrev pub invariant-loop-at : goal.invariant-loop-at
invariant-loop-at l = l.text.items ++ spec.reply_lines (l.at + 1) (drop l.at l.replies) ≡ l.fn.text.items ++ spec.reply_lines 1 l.replies
