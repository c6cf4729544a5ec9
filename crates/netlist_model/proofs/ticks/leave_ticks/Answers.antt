use Rattle.netlist_model.specs.Deletions.{tick_after}
use Rattle.netlist_model.proofs.Taken.{mapped_more}
use Rattle.netlist_model.proofs.ticks.leave_ticks.Goals as goal

pub loop-tick-preserved : goal.loop-tick-preserved
loop-tick-preserved c =
    mapped_more (tick_after c.args.gone) c.args.ticks.now c.loop-tick.ticks c.loop-tick.tick-index _ _ c.loop-tick-test.true c.loop-tick.auto.ticks c.loop-tick.invariant c.tick_after.ensures
