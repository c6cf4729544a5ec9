use Rattle.std.proofs.Common.{subst, sym}
use Rattle.netlist_model.specs.Circuit.{Circuit}
use Rattle.netlist_model.specs.Sound.{Fits}
use Rattle.netlist_model.proofs.netlist.Netlist.set_root_by_words.Goals as goal

pub returns-clause-fits : goal.returns-clause-fits
returns-clause-fits c = λ library h. subst (λ (n : Circuit). Fits library n.insts) (sym c.self.view_is) h
