use Rattle.std.proofs.Common.{subst, sym}
use Rattle.netlist_model.specs.Circuit.{Circuit}
use Rattle.netlist_model.specs.Sound.{Fits}
use Rattle.netlist_model.proofs.Deleted.{fits_remove, inst_removed}
use Rattle.netlist_model.proofs.netlist.Netlist.del_inst.Goals as goal

pub invariant_of-self : goal.invariant_of-self
invariant_of-self c = rw c.remove.ensures (inst_removed _ c.in-Some.at c.self.invariant)

pub returns-clause-fits : goal.returns-clause-fits
returns-clause-fits c = λ library h.
    rw c.remove.ensures (fits_remove library c.self.inside.insts c.in-Some.at (subst (λ (n : Circuit). Fits library n.insts) (sym c.self.view_is) h))
