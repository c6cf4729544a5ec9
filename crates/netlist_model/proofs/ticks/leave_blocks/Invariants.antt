use Rattle.std.proofs.Common.{◌≡◌, ◌++◌, map, take, drop}
use Rattle.netlist_model.specs.Deletions.{tick_after}
use Rattle.netlist_model.proofs.BlockLemmas.{lists}
use Rattle.netlist_model.proofs.ticks.leave_blocks.Given as goal

abbrev pub invariant-loop-block : goal.invariant-loop-block
invariant-loop-block l = lists l.blocks ≡ map (map (tick_after l.gone)) (take l.block-index (lists l.fn.blocks)) ++ drop l.block-index (lists l.fn.blocks)
