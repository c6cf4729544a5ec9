use Rattle.std.proofs.Common.{◌≡◌, ◌+◌, ◌++◌, map, length, vec_len, vec_capacity}
use Rattle.session_run.proofs.drive.replies_of.Given as goal

abbrev pub invariant-loop-player : goal.invariant-loop-player
invariant-loop-player l = record {
  count : vec_len l.all + length l.player-iterator.rest.items ≡ vec_capacity l.all;
  same : l.all.items ++ map (λ p. p.replies.items) l.player-iterator.rest.items ≡ map (λ p. p.replies.items) l.fn.players.items;
}
