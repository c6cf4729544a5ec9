use Rattle.netlist_model.specs.Deletions.{ref_after}
use Rattle.netlist_model.proofs.Taken.{mapped_more}
use Rattle.netlist_model.proofs.parts.leave_all.Goals as goal

pub loop-pin-preserved : goal.loop-pin-preserved
loop-pin-preserved c =
    mapped_more (ref_after c.args.gone) c.args.pins.now c.loop-pin.pins c.loop-pin.pin-index _ _ c.loop-pin-test.true c.loop-pin.auto.pins c.loop-pin.invariant (c.ref_after.ensures)
