use Rattle.std.proofs.Common.{◌≡◌, ◌++◌, ◌-◌, map}
use Rattle.std.specs.List.{range_with_len}
use Rattle.cyc_text.specs.Written.{lines_text}
use Rattle.ring_maker.specs.Ring as spec
use Rattle.ring_maker.proofs.rings.push_complement_ticks.Given as goal

abbrev pub invariant-loop-stage : goal.invariant-loop-stage
invariant-loop-stage l =
    l.text.items ++ lines_text (map spec.complement_tick (range_with_len l.stage (l.stages - l.stage)))
    ≡ l.fn.text.items ++ lines_text (map spec.complement_tick (range_with_len 2 (l.stages - 2)))
