use Rattle.std.proofs.Common.{◌≡◌, ◌<◌, ◌*◌, ◌==◌, ◌&&◌, not, nat_le, None, length, position, false, true, subst, sym, ap, ◌∙◌, arith}
use Rattle.std.specs.List.{list_any}
use Rattle.std.specs.Str.{bytes_eq}
use Rattle.cyc_text.specs.Name.{is_name}
use Rattle.netlist_model.specs.Circuit.{Circuit, roots_of}
use Rattle.netlist_model.specs.Sound.{Fits}
use Rattle.netlist_model.specs.declared.parts.Fork.{Fork}
use Rattle.netlist_model.proofs.Soundness.{fork_added, roots_fit}
use Rattle.netlist_model.proofs.netlist.Netlist.add_fork_by_words.Goals as goal

pub returns-in_err-push-clause-fits : goal.returns-in_err-push-clause-fits
returns-in_err-push-clause-fits c = λ library h. subst (λ (n : Circuit). Fits library n.insts) (sym c.self.view_is) h

pub returns-clause-fits : goal.returns-clause-fits
returns-clause-fits c = λ library h. subst (λ (n : Circuit). Fits library n.insts) (sym c.self.view_is) h

pub invariant_of-self-2 : goal.invariant_of-self-2
invariant_of-self-2 c =
    let nets : length c.args.self.now.nets ≡ length c.self.inside.nets = ap (λ (n : Circuit). length n.nets) (sym c.self.view_is) in
    let named : is_name c.args.name.now ≡ true = grind arith in
    let r : c.in_ok-root.root < 2 * length c.self.inside.nets = omega (arith, c.in_ok-root.ensures.within) in
    let a : c.in_ok-fast.fast < 2 * length c.self.inside.nets = omega (arith, c.in_ok-fast.ensures.within) in
    let b : c.in_ok-slow.slow < 2 * length c.self.inside.nets = omega (arith, c.in_ok-slow.ensures.within) in
    let fresh : position (λ (x : Fork). bytes_eq c.args.name.now x.name) c.self.inside.forks ≡ None = grind arith in
    let few : length c.self.inside.forks < 256 = omega (arith, c.count.ensures) in
    let full : (not (list_any (λ x. c.in_ok-root.root == x) (roots_of c.self.inside.forks)) && nat_le 64 (length (roots_of c.self.inside.forks))) ≡ false = sym c.is_past_roots.ensures ∙ c.if-is_past_roots.false in
    let own : c.in_ok-of.field-0 ≡ c.args.name.now = c.in_ok-of.ensures in
    rw c.in_ok-push.ensures.ok (fork_added _ _ c.self.invariant (record { named = rw own named; root = r; fast = a; slow = b; margin = omega arith; offset = omega arith }) (rw own fresh) few (roots_fit c.self.inside.forks _ c.self.invariant.few_roots full))
