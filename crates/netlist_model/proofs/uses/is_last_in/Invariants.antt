use Rattle.std.proofs.Common.{◌≡◌, ◌<◌, ℕ}
use Rattle.netlist_model.specs.Uses.{count_at}
use Rattle.netlist_model.proofs.uses.is_last_in.Given as goal

abbrev pub invariant-loop-at : goal.invariant-loop-at
invariant-loop-at l = (n : ℕ) → l.place < n → n < l.at → count_at l.counts n ≡ 0
