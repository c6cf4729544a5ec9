use Rattle.std.proofs.Common.{◌≡◌, [], map, ap, sym, ◌∙◌}
use Rattle.std.specs.List.{remove}
use Rattle.netlist_model.specs.Circuit.{kinds_after}
use Rattle.netlist_model.specs.declared.parts.Fork.{Fork}
use Rattle.netlist_model.proofs.Taken.{map-remove}
use Rattle.netlist_model.proofs.forks.Forks.remove.Goals as goal

pub invariant_of-self : goal.invariant_of-self
invariant_of-self c =
    let old = c.self.inside.items.items in
    let at = c.args.at in
    let after : c.remove-3.new.self.items ≡ remove old at = c.remove-3.ensures.items in
    let roots : c.in_ok-roots.roots.items ≡ map (λ (f : Fork). f.root) old = c.in_ok-roots.ensures ∙ ap (map (λ (f : Fork). f.root)) c.deref.ensures.value in
    rw after (
      c.remove-2.ensures ∙ ap (λ names. remove names at) c.self.invariant.0 ∙ sym (map-remove (λ (f : Fork). f.name) old at),
      c.in_ok-self-inside.ensures ∙ ap (kinds_after []) (c.deref-2.ensures.value ∙ c.remove.ensures.items ∙ ap (λ rs. remove rs at) roots ∙ sym (map-remove (λ (f : Fork). f.root) old at)),
    )
