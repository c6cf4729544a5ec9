use Rattle.std.proofs.lemmas.Option.{slice_get_within, slice_get-get_or}
use Rattle.netlist_model.proofs.netlist.inst_cell.Goals as goal

pub cell-requires : goal.cell-requires
cell-requires c = let f = c.requires.fits c.args.at c.index-insts-at.result c.requires.within in slice_get_within _ _ f.0 f.1

pub returns : goal.returns
returns c = record { cell = rw (slice_get-get_or c.args.insts.now c.args.at c.index-insts-at.result c.requires.within) c.cell.ensures.item }
