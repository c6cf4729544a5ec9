use Rattle.std.proofs.Common.{◌≡◌, true, false, is_some, subst, sym, ap, ◌∙◌, arith}
use Rattle.cyc_text.specs.Name.{is_name}
use Rattle.netlist_model.specs.Circuit.{Circuit, ref_of}
use Rattle.netlist_model.specs.Statements.{is_ref}
use Rattle.netlist_model.specs.Sound.{Fits}
use Rattle.netlist_model.proofs.Soundness.{const_added}
use Rattle.netlist_model.proofs.netlist.Netlist.add_const.Goals as goal

pub returns-in_err-push-clause-fits : goal.returns-in_err-push-clause-fits
returns-in_err-push-clause-fits c = λ library h. subst (λ (n : Circuit). Fits library n.insts) (sym c.self.view_is) h

pub returns-clause-fits : goal.returns-clause-fits
returns-clause-fits c = λ library h. subst (λ (n : Circuit). Fits library n.insts) (sym c.self.view_is) h

pub invariant_of-self-2 : goal.invariant_of-self-2
invariant_of-self-2 c =
    let named : is_name c.args.name.now ≡ true = grind arith in
    let fresh : is_some (ref_of c.self.inside.nets c.self.inside.consts c.args.name.now) ≡ false = ap (λ n. is_ref n c.args.name.now) c.self.view_is ∙ sym c.is_taken.ensures ∙ c.if-is_taken.false in
    rw c.in_ok-push.ensures.ok (const_added _ c.args.name.now c.self.invariant named fresh (omega (arith, c.count.ensures)))
