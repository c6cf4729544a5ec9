use Rattle.netlist_model.proofs.Soundness.{nothing_is_netlist}
use Rattle.netlist_model.proofs.netlist.Netlist.empty.Goals as goal

pub invariant_of-result : goal.invariant_of-result
invariant_of-result c = rw (c.empty.ensures, c.empty-2.ensures, c.empty-3.ensures, c.empty-4.ensures, c.empty-5.ensures) nothing_is_netlist
