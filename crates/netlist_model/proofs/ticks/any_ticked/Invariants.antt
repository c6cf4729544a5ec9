use Rattle.std.proofs.Common.{◌≡◌, drop}
use Rattle.std.specs.List.{list_any}
use Rattle.netlist_model.specs.Deletions.{is_ticked}
use Rattle.netlist_model.proofs.BlockLemmas.{flat, lists}
use Rattle.netlist_model.proofs.ticks.any_ticked.Given as goal

abbrev pub invariant-loop-block : goal.invariant-loop-block
invariant-loop-block l = list_any (is_ticked l.net) (flat (lists l.blocks)) ≡ list_any (is_ticked l.net) (flat (drop l.block-index (lists l.blocks)))
