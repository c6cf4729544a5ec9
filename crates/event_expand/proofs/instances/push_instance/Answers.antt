use Rattle.std.proofs.Common.{length, subst, sym, ◌∙◌}
use Rattle.std.proofs.lemmas.Option.{same_Some, slice_get_within}
use Rattle.netlist_model.specs.Sound.{FitsCell, IsInstance, IsOfLibrary}
use Rattle.event_expand.proofs.ArcLemmas.{All_get}
use Rattle.event_expand.proofs.instances.push_instance.Goals as goal

pub cell-cell-requires : goal.cell-cell-requires
cell-cell-requires c =
    let of = All_get (IsOfLibrary c.args.library.now) c.args.net.now.insts c.args.at c.inst-instance.result.now c.requires.fits c.inst-instance.ensures in
    slice_get_within c.args.library.now c.inst-instance.result.now.cell of.0 of.1

pub push_arcs-requires-clause-instance : goal.push_arcs-requires-clause-instance
push_arcs-requires-clause-instance c =
    All_get (IsInstance (length c.args.net.now.nets) (length c.args.net.now.consts)) c.args.net.now.insts c.args.at c.inst-instance.result.now c.requires.sound.insts c.inst-instance.ensures

pub push_arcs-requires-clause-fits : goal.push_arcs-requires-clause-fits
push_arcs-requires-clause-fits c =
    let of = All_get (IsOfLibrary c.args.library.now) c.args.net.now.insts c.args.at c.inst-instance.result.now c.requires.fits c.inst-instance.ensures in
    subst (λ k. FitsCell k c.inst-instance.result.now) (same_Some of.0 c.cell-cell.result.now (sym of.1 ∙ c.cell-cell.ensures.item)) of.2
