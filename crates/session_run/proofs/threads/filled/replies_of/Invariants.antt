use Rattle.std.proofs.Common.{◌≡◌, ◌+◌, ◌++◌, map, length, vec_len, vec_capacity}
use Rattle.session_run.proofs.threads.filled.replies_of.Given as goal

abbrev pub invariant-loop-ran : goal.invariant-loop-ran
invariant-loop-ran l = record {
  count : vec_len l.all + length l.ran-iterator.rest.items ≡ vec_capacity l.all;
  same : l.all.items ++ map (λ r. r.replies.items) l.ran-iterator.rest.items ≡ map (λ r. r.replies.items) l.fn.rans.items;
}
