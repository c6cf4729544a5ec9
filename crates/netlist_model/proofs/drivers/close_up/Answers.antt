use Rattle.netlist_model.specs.Keyed.{place_after}
use Rattle.netlist_model.proofs.Taken.{mapped_more}
use Rattle.netlist_model.proofs.drivers.close_up.Goals as goal

pub loop-driver-preserved : goal.loop-driver-preserved
loop-driver-preserved c =
    mapped_more (place_after c.args.gone) c.args.drivers.now c.loop-driver.drivers c.loop-driver.driver-index _ _ c.loop-driver-test.true c.loop-driver.auto.drivers c.loop-driver.invariant (c.moved.ensures)
