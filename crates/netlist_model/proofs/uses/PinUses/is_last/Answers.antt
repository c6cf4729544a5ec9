use Rattle.std.proofs.Common.{subst, sym}
use Rattle.netlist_model.specs.Uses.{TellsPins}
use Rattle.netlist_model.specs.declared.parts.NetRef.TheVariants.{Net, Const}
use Rattle.netlist_model.proofs.UseLemmas.{none_behind_const, none_behind_net}
use Rattle.netlist_model.proofs.uses.PinUses.is_last.Goals as goal

pub returns-in-Net : goal.returns-in-Net
returns-in-Net c = λ known u told r behind.
    let within = subst (λ p. TellsPins p u) (sym c.self.view_is) told in
    none_behind_net u c.in-Net.net c.args.gone r c.in-Net.is (c.is_last.ensures known (λ n. u (Net n)) within.nets) behind

pub returns-in-Const : goal.returns-in-Const
returns-in-Const c = λ known u told r behind.
    let within = subst (λ p. TellsPins p u) (sym c.self.view_is) told in
    none_behind_const u c.in-Const.at c.args.gone r c.in-Const.is (c.is_last-in-Const.ensures known (λ k. u (Const k)) within.consts) behind
