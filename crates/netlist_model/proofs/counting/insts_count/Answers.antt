use Rattle.std.proofs.Common.{subst, sym}
use Rattle.netlist_model.specs.Sound.{IsOfLibrary}
use Rattle.netlist_model.proofs.counting.insts_count.Goals as goal

pub inst_count-more-requires : goal.inst_count-more-requires
inst_count-more-requires c = subst (IsOfLibrary c.args.library.now) (sym c.inst-item.is) (c.requires.fits c.loop-inst.inst-index c.inst-item.result c.loop-inst-test.true)
