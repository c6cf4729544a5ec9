use Rattle.std.proofs.Common.{◌≤◌, subst, sym, ap, ◌∙◌, arith}
use Rattle.netlist_model.specs.Circuit.{Circuit}
use Rattle.netlist_model.specs.Sound.{Fits}
use Rattle.netlist_model.proofs.InstanceLemmas.{arc_within, delay_set, fits_delay}
use Rattle.netlist_model.proofs.netlist.Netlist.set_delay.Goals as goal

pub inst_cell-cell-requires-clause-fits : goal.inst_cell-cell-requires-clause-fits
inst_cell-cell-requires-clause-fits c = subst (Fits c.args.library.now) (ap (λ (n : Circuit). n.insts) (sym c.self.view_is) ∙ sym c.list.ensures) c.requires

pub set_delay-requires-clause-arc : goal.set_delay-requires-clause-arc
set_delay-requires-clause-arc c = λ i e.
    arc_within c.args.library.now c.self.inside.insts c.in-Some.at c.in_ok-arc.arc i c.inst_cell-cell.result.now
    (subst (Fits c.args.library.now) (ap (λ (n : Circuit). n.insts) (sym c.self.view_is)) c.requires) e (rw c.list.ensures at c.inst_cell-cell.ensures.cell) c.in_ok-arc.ensures.within

pub invariant_of-self : goal.invariant_of-self
invariant_of-self c =
    let rise : c.args.rise ≤ 1000000 = omega arith in
    let fall : c.args.fall ≤ 1000000 = omega arith in
    rw c.set_delay.ensures (delay_set _ c.in-Some.at c.in_ok-arc.arc c.args.rise c.args.fall c.self.invariant rise fall)

pub returns-clause-fits : goal.returns-clause-fits
returns-clause-fits c =
    rw c.set_delay.ensures (fits_delay c.args.library.now c.self.inside.insts c.in-Some.at c.in_ok-arc.arc c.args.rise c.args.fall (subst (Fits c.args.library.now) (ap (λ (n : Circuit). n.insts) (sym c.self.view_is)) c.requires))
