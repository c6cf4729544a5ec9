use Rattle.std.proofs.Common.{subst, sym}
use Rattle.netlist_model.specs.Circuit.{Circuit}
use Rattle.netlist_model.specs.Sound.{Fits}
use Rattle.netlist_model.proofs.Deleted.{fork_removed}
use Rattle.netlist_model.proofs.netlist.Netlist.del_fork.Goals as goal

pub returns-in_err-remove-clause-fits : goal.returns-in_err-remove-clause-fits
returns-in_err-remove-clause-fits c = λ library h. subst (λ (n : Circuit). Fits library n.insts) (sym c.self.view_is) h

pub invariant_of-self-2 : goal.invariant_of-self-2
invariant_of-self-2 c = rw c.in_ok-remove.ensures.ok (fork_removed _ c.in-Some.at c.in-Some.ensures.within c.self.invariant)

pub returns-clause-fits : goal.returns-clause-fits
returns-clause-fits c = λ library h. subst (λ (n : Circuit). Fits library n.insts) (sym c.self.view_is) h
