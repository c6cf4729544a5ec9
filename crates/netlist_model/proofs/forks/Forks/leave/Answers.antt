use Rattle.std.proofs.Common.{◌≡◌, [], length, map, refl, ap, sym, ◌∙◌, rules}
use Rattle.netlist_model.specs.Circuit.{kinds_after}
use Rattle.netlist_model.specs.Deletions.{event_after, fork_after}
use Rattle.netlist_model.specs.declared.parts.Fork.{Fork}
use Rattle.netlist_model.proofs.Taken.{map_kept, map_over, written}
use Rattle.netlist_model.proofs.forks.Forks.leave.Goals as goal

pub invariant_of-self : goal.invariant_of-self
invariant_of-self c =
    let old = c.self.inside.items.items in
    let count : c.self.inside.items.len ≡ length old = search rules in
    let roots : c.in_ok-roots.roots.items ≡ map (λ (f : Fork). f.root) old = c.in_ok-roots.ensures ∙ ap (map (λ (f : Fork). f.root)) c.deref.ensures.value in
    let counted : c.in_ok-roots.roots.len ≡ length c.in_ok-roots.roots.items = search rules in
    let moved = written (event_after c.args.gone) c.leave_events.new.events c.in_ok-roots.roots.items c.in_ok-roots.roots.len (c.leave_events.ensures ∙ ap (map (event_after c.args.gone)) c.deref_mut.ensures.value) counted in
    rw (written (fork_after c.args.gone) c.leave_all.new.forks old c.self.inside.items.len (c.leave_all.ensures ∙ ap (map (fork_after c.args.gone)) c.deref_mut-2.ensures.value) count) (
      c.self.invariant.0 ∙ sym (map_kept (λ (f : Fork). f.name) (fork_after c.args.gone) old (λ f. refl)),
      c.in_ok-self-inside.ensures ∙ ap (kinds_after []) (c.deref-2.ensures.value ∙ moved ∙ ap (map (event_after c.args.gone)) roots ∙ sym (map_over (λ (f : Fork). f.root) (fork_after c.args.gone) (event_after c.args.gone) old (λ f. refl))),
    )
