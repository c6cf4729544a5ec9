use Rattle.netlist_model.specs.Hints.{held_after}
use Rattle.netlist_model.proofs.Taken.{mapped_more}
use Rattle.netlist_model.proofs.hints.close_up.Goals as goal

pub loop-held-preserved : goal.loop-held-preserved
loop-held-preserved c =
    mapped_more (held_after c.args.gone) c.args.slots.now c.loop-held.slots c.loop-held.held-index _ _ c.loop-held-test.true c.loop-held.auto.slots c.loop-held.invariant (c.held_after.ensures)
