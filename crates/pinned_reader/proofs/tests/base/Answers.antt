use Rattle.pinned_reader.proofs.tests.base.Goals as goal

pub base-requires-after_bounds : goal.base-requires-after_bounds
base-requires-after_bounds g c κs within = rw (← c.deref.ensures) c.in_ok-netlist.ensures.fits
