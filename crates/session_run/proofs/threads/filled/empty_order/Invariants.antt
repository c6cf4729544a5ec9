use Rattle.std.proofs.Common.{◌≡◌, ◌+◌, drop}
use Rattle.session_run.specs.Filled.{total}
use Rattle.session_run.proofs.threads.filled.empty_order.Given as goal

abbrev pub invariant-loop-ran : goal.invariant-loop-ran
invariant-loop-ran l = l.count + total (drop l.ran-index l.rans) ≡ total l.rans
