use Rattle.std.proofs.Common.{◌≡◌, None, subst, sym, ap, length, position, slice_get, ◌∙◌, arith}
use Rattle.std.specs.Str.{bytes_eq}
use Rattle.netlist_model.specs.Circuit.{Circuit, driver_of}
use Rattle.netlist_model.specs.Sound.{IsInstance, Fits}
use Rattle.netlist_model.specs.declared.parts.Instance.{Instance}
use Rattle.netlist_model.proofs.InstanceLemmas.{fits_push}
use Rattle.netlist_model.proofs.Soundness.{inst_added}
use Rattle.netlist_model.proofs.netlist.Netlist.add_inst_by_words.Goals as goal

pub returns-in_err-push-clause-fits : goal.returns-in_err-push-clause-fits
returns-in_err-push-clause-fits c = rw c.in_err-push.ensures.err (subst (λ (n : Circuit). Fits c.args.library.now n.insts) (sym c.self.view_is) c.requires)

pub invariant_of-self-2 : goal.invariant_of-self-2
invariant_of-self-2 c =
    let fresh : position (λ (x : Instance). bytes_eq c.args.name.now x.name) c.self.inside.insts ≡ None = grind arith in
    let own : c.in_ok-instance.instance.name ≡ c.args.name.now = c.in_ok-instance.ensures.named in
    rw c.in_ok-push.ensures.ok (inst_added _ c.in_ok-instance.instance c.in_ok-instance.net c.self.invariant
    (subst (λ (n : Circuit). IsInstance (length n.nets) (length n.consts) c.in_ok-instance.instance) (sym c.self.view_is) c.in_ok-instance.ensures.sound)
    (rw own fresh) c.in_ok-instance.ensures.output (ap (λ (n : Circuit). driver_of n.insts c.in_ok-instance.net) c.self.view_is ∙ c.in_ok-instance.ensures.free))

pub returns-clause-fits : goal.returns-clause-fits
returns-clause-fits c =
    rw c.in_ok-push.ensures.ok (fits_push c.args.library.now c.self.inside.insts c.in_ok-instance.instance c.cell.result.now (subst (λ (n : Circuit). Fits c.args.library.now n.insts) (sym c.self.view_is) c.requires)
    (ap (slice_get c.args.library.now) c.in_ok-instance.ensures.place ∙ c.cell.ensures.item) c.in_ok-instance.ensures.fits)
