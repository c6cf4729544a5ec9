use Rattle.std.proofs.Common.{◌≡◌, ◌++◌, map, drop, length, vec_len, vec_capacity}
use Rattle.session_run.proofs.drive.order_of.Given as goal

abbrev pub invariant-loop-entry : goal.invariant-loop-entry
invariant-loop-entry l = record {
  count : vec_len l.order ≡ l.entry-index;
  room : vec_capacity l.order ≡ length l.entries;
  same : l.order.items ++ map (λ e. e.session) (drop l.entry-index l.entries) ≡ map (λ e. e.session) l.entries;
}
