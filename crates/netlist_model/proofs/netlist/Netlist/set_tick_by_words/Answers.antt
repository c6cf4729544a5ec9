use Rattle.std.proofs.Common.{◌≡◌, ◌<◌, ◌*◌, length, false, is_some, subst, sym, ap, arith}
use Rattle.netlist_model.specs.Circuit.{Circuit, tick_of}
use Rattle.netlist_model.specs.Sound.{Fits}
use Rattle.netlist_model.proofs.Soundness.{tick_added, tick_ended}
use Rattle.netlist_model.proofs.netlist.Netlist.set_tick_by_words.Goals as goal

pub invariant_of-self : goal.invariant_of-self
invariant_of-self c = rw c.remove.ensures (tick_ended _ _ c.self.invariant)

pub returns-then-count-eq0-clause-fits : goal.returns-then-count-eq0-clause-fits
returns-then-count-eq0-clause-fits c = λ library h. subst (λ (n : Circuit). Fits library n.insts) (sym c.self.view_is) h

pub returns-in_err-push-clause-fits : goal.returns-in_err-push-clause-fits
returns-in_err-push-clause-fits c = λ library h. subst (λ (n : Circuit). Fits library n.insts) (sym c.self.view_is) h

pub returns-clause-fits : goal.returns-clause-fits
returns-clause-fits c = λ library h. subst (λ (n : Circuit). Fits library n.insts) (sym c.self.view_is) h

pub invariant_of-self-2 : goal.invariant_of-self-2
invariant_of-self-2 c =
    let nets : length c.args.self.now.nets ≡ length c.self.inside.nets = ap (λ (n : Circuit). length n.nets) (sym c.self.view_is) in
    let s : c.in_ok-source.source < 2 * length c.self.inside.nets = omega (arith, c.in_ok-source.ensures.within) in
    let t : c.in_ok-target.target < 2 * length c.self.inside.nets = omega (arith, c.in_ok-target.ensures.within) in
    let fresh : is_some (tick_of c.self.inside.ticks c.in_ok-source.source c.in_ok-target.target) ≡ false = grind arith in
    rw c.in_ok-push.ensures.ok (tick_added _ _ c.self.invariant (record { source = s; target = t; some = omega arith; few = omega arith }) fresh)
