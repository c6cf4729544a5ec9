use Rattle.std.proofs.Common.{◌≡◌, ◌≤◌, ◌*◌, take}
use Rattle.std.specs.List.{sum_by}
use Rattle.netlist_model.specs.ArcRules.{inst_count}
use Rattle.netlist_model.proofs.counting.insts_count.Given as goal

abbrev pub invariant-loop-inst : goal.invariant-loop-inst
invariant-loop-inst l = (l.count ≡ sum_by (inst_count l.library) (take l.inst-index l.insts)) × (l.count ≤ 64 * l.inst-index)
