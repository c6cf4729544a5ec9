use Rattle.std.proofs.Common.{◌≡◌, ◌<◌, length, false, subst, sym}
use Rattle.netlist_model.specs.Circuit.{Circuit}
use Rattle.netlist_model.specs.Deletions.{is_used}
use Rattle.netlist_model.specs.declared.parts.NetRef.TheVariants.{Const}
use Rattle.netlist_model.proofs.Deleted.{const_removed}
use Rattle.netlist_model.proofs.netlist.Netlist.leave_const.Goals as goal

pub invariant_of-self : goal.invariant_of-self
invariant_of-self c =
    let low = subst (λ (n : Circuit). c.args.at < length n.consts) (sym c.self.view_is) c.requires.within in
    let free = subst (λ (n : Circuit). is_used n (Const c.args.at) ≡ false) (sym c.self.view_is) c.requires.unused in
    rw (c.remove.ensures, c.leave.ensures) (const_removed _ c.args.at low free c.self.invariant)
