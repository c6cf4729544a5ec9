use Rattle.std.proofs.Common.{◌≡◌, ◌+◌, List}
use Rattle.session_run.specs.Items.{Item}
use Rattle.session_run.specs.Filled.{IsPlaced}
use Rattle.session_run.proofs.Fills.{marked}
use Rattle.session_run.proofs.threads.filled.order_of.Given as goal

abbrev pub invariant-loop-ran : goal.invariant-loop-ran
invariant-loop-ran l = record {
  number : l.number ≡ l.ran-index;
  order : (seen : List Item) → IsPlaced l.rans seen → l.order.items ≡ marked (l.ran-index + 1) seen;
}
