use Rattle.cell_arcs.specs.declared.cells.Sense.TheVariants.{Pos}
use Rattle.netlist_model.specs.declared.parts.NetRef.TheVariants.{Net}
use Rattle.event_expand.proofs.ArcLemmas.{arc_more}
use Rattle.event_expand.proofs.instances.push_arcs.Goals as goal

pub arcs-preserved : goal.arcs-preserved
arcs-preserved c =
    arc_more c.args.net.now.ticks c.args.cell.now c.args.instance.now c.list-arc-items.result.now c.list-pins.result.now c.list-delays.result.now
    c.list.result.now (record { from = 0; sense = Pos; rise = 0; fall = 0 }) (Net 0) c.requires.cell c.requires.fits
    c.list-arc-items.ensures c.list-pins.ensures c.list-delays.ensures c.list.ensures c.arcs.place _ _ _ c.arcs-test.true c.arcs.invariant
    c.in_ok-push_arc.ensures
