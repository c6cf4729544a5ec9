use Rattle.std.proofs.Common.{List, subst, sym}
use Rattle.cell_arcs.specs.declared.cells.Cell.{Cell}
use Rattle.netlist_model.specs.Circuit.{Circuit}
use Rattle.netlist_model.specs.Deletions.{after_ref}
use Rattle.netlist_model.specs.Sound.{Fits}
use Rattle.netlist_model.specs.declared.parts.NetRef.{NetRef}
use Rattle.netlist_model.specs.declared.parts.NetRef.TheVariants.{Net, Const}
use Rattle.netlist_model.proofs.Deleted.{fits_after}
use Rattle.netlist_model.proofs.netlist.Netlist.del_net.Goals as goal

after_fits : (library : List Cell) (n : Circuit) (gone : NetRef) → Fits library n.insts → Fits library (after_ref n gone).insts
after_fits library n (Net k) fits = fits_after library (Net k) n.insts fits
after_fits library n (Const k) fits = fits_after library (Const k) n.insts fits

pub returns-in_err-leave-clause-fits : goal.returns-in_err-leave-clause-fits
returns-in_err-leave-clause-fits c = λ library h. subst (λ (n : Circuit). Fits library n.insts) (sym c.in_err-leave.ensures.err) h

pub returns-clause-fits : goal.returns-clause-fits
returns-clause-fits c = λ library h. subst (λ (n : Circuit). Fits library n.insts) (sym c.in_ok-leave.ensures.ok) (after_fits library c.args.self.now c.in-Some.gone h)
