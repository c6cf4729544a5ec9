use Rattle.std.proofs.Common.{◌≡◌, take}
use Rattle.netlist_model.proofs.BlockLemmas.{lists}
use Rattle.netlist_model.proofs.ticks.copies.Given as goal

abbrev pub invariant-loop-block : goal.invariant-loop-block
invariant-loop-block l = lists l.copies.items ≡ take l.block-index (lists l.blocks)
