use Rattle.std.proofs.Common.{◌≡◌, ◌<◌, length, false, subst, sym}
use Rattle.netlist_model.specs.Circuit.{Circuit}
use Rattle.netlist_model.specs.Deletions.{is_used}
use Rattle.netlist_model.specs.declared.parts.NetRef.TheVariants.{Net}
use Rattle.netlist_model.proofs.Deleted.{net_removed}
use Rattle.netlist_model.proofs.netlist.Netlist.leave_net.Goals as goal

pub invariant_of-self-2 : goal.invariant_of-self-2
invariant_of-self-2 c =
    let low = subst (λ (n : Circuit). c.args.net < length n.nets) (sym c.self.view_is) c.requires.within in
    let free = subst (λ (n : Circuit). is_used n (Net c.args.net) ≡ false) (sym c.self.view_is) c.requires.unused in
    rw (c.in_ok-leave.ensures.ok, c.remove.ensures, c.leave-2.ensures, c.leave-3.ensures, c.root_after-self-inside.ensures) (net_removed _ c.args.net low free c.self.invariant)
