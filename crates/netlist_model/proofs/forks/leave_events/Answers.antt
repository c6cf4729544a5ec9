use Rattle.netlist_model.specs.Deletions.{event_after}
use Rattle.netlist_model.proofs.Taken.{mapped_more}
use Rattle.netlist_model.proofs.forks.leave_events.Goals as goal

pub loop-event-preserved : goal.loop-event-preserved
loop-event-preserved c =
    mapped_more (event_after c.args.gone) c.args.events.now c.loop-event.events c.loop-event.event-index _ _ c.loop-event-test.true c.loop-event.auto.events c.loop-event.invariant (c.event_after.ensures)
