use Rattle.std.proofs.Common.{◌≡◌, ◌≤◌, ◌*◌, take}
use Rattle.std.specs.List.{sum_by}
use Rattle.netlist_model.specs.ArcRules.{arc_count}
use Rattle.netlist_model.proofs.counting.arcs_count.Given as goal

abbrev pub invariant-loop-arc : goal.invariant-loop-arc
invariant-loop-arc l = (l.count ≡ sum_by (arc_count l.pins) (take l.arc-index l.arcs)) × (l.count ≤ 4 * l.arc-index)
