use Rattle.std.proofs.Common.{◌≡◌, ◌++◌, map, take, drop}
use Rattle.netlist_model.specs.Deletions.{tick_after}
use Rattle.netlist_model.proofs.ticks.leave_ticks.Given as goal

abbrev pub invariant-loop-tick : goal.invariant-loop-tick
invariant-loop-tick l = l.ticks ≡ map (tick_after l.gone) (take l.tick-index l.fn.ticks) ++ drop l.tick-index l.fn.ticks
