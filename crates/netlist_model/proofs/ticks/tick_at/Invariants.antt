use Rattle.std.proofs.Common.{◌≡◌, drop, slice_get, map}
use Rattle.netlist_model.proofs.BlockLemmas.{flat}
use Rattle.netlist_model.proofs.ticks.tick_at.Given as goal

abbrev pub invariant-loop-block : goal.invariant-loop-block
invariant-loop-block l = slice_get (flat (map (λ b. b.items) l.blocks)) l.fn.at ≡ slice_get (flat (drop l.block-index (map (λ b. b.items) l.blocks))) l.left
