use Rattle.pinned_reader.proofs.tests.after.Goals as goal

pub apply-requires : goal.apply-requires
apply-requires g c = rw c.deref.ensures c.parent.invariant.fits

pub next-requires-after_bounds : goal.next-requires-after_bounds
next-requires-after_bounds g c κs within = rw (← c.parent.view_is) (record {
  made = c.in-Ok._made;
  accepted = rw (← c.deref.ensures) c.in-Ok.ensures.ok;
})
