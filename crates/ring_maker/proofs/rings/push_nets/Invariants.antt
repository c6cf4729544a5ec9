use Rattle.std.proofs.Common.{◌≡◌, ◌++◌, ◌-◌}
use Rattle.std.specs.List.{flat_map, range_with_len}
use Rattle.cyc_text.specs.Written.{lines_text}
use Rattle.ring_maker.specs.Ring as spec
use Rattle.ring_maker.proofs.rings.push_nets.Given as goal

abbrev pub invariant-loop-stage : goal.invariant-loop-stage
invariant-loop-stage l =
    l.text.items ++ lines_text (flat_map spec.net_lines (range_with_len l.stage (l.stages - l.stage)))
    ≡ l.fn.text.items ++ lines_text (flat_map spec.net_lines (range_with_len 0 l.stages))
