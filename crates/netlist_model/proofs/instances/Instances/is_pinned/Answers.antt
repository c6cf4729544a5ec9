use Rattle.std.proofs.Common.{nat_lt, ap, sym, ◌∙◌}
use Rattle.std.specs.List.{list_any}
use Rattle.netlist_model.specs.Deletions.{is_pinned}
use Rattle.netlist_model.specs.Uses.{uses_of}
use Rattle.netlist_model.proofs.PinLemmas.{any_uses}
use Rattle.netlist_model.proofs.instances.Instances.is_pinned.Goals as goal

pub returns-in-Some : goal.returns-in-Some
returns-in-Some c =
    let items = c.self.inside.items.items in
    ap (nat_lt 0) (c.in-Some.ensures (uses_of items) c.self.invariant.2) ∙ sym (any_uses c.args.to items) ∙ ap (list_any (is_pinned c.args.to)) c.self.view_is
