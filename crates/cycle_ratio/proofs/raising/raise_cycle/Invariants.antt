use Rattle.std.proofs.Common.{◌-◌}
use Rattle.cyc_num.specs.Ratio.{most_bottom, most_top}
use Rattle.rule_system.specs.Rules.{delay_sum, offset_sum}
use Rattle.rule_system.specs.Weights.{rank}
use Rattle.cycle_ratio.specs.Cycles.{IsShortCycle}
use Rattle.cycle_ratio.proofs.raising.raise_cycle.Given as goal

abbrev pub invariant-raises : goal.invariant-raises
invariant-raises l = IsShortCycle l.system.events l.system.rules l.cycle

abbrev pub decreases-raises : goal.decreases-raises
decreases-raises l = rank most_bottom most_top 1 - rank most_bottom (delay_sum l.system.rules l.cycle) (offset_sum l.system.rules l.cycle)
