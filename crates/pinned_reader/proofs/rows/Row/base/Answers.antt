use Rattle.pinned_reader.proofs.rows.Row.base.Goals as goal

pub analyse_netlist-requires-after_bounds : goal.analyse_netlist-requires-after_bounds
analyse_netlist-requires-after_bounds g c κs within = rw c.deref.ensures c.requires

pub row_of-requires : goal.row_of-requires
row_of-requires g c = rw (c.in_ok-netlist.ensures, ← c.deref.ensures) (record {
  fits = rw c.deref.ensures c.requires;
  system = c.in_ok-analysed.ensures.system;
  analysis = c.in_ok-analysed.ensures.found;
})
