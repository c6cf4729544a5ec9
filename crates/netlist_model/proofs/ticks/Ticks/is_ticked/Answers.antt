use Rattle.std.proofs.Common.{nat_lt, ap, sym, ◌∙◌}
use Rattle.std.specs.List.{list_any}
use Rattle.netlist_model.specs.Deletions.{is_ticked}
use Rattle.netlist_model.specs.Uses.{ends_of}
use Rattle.netlist_model.proofs.TickLemmas.{any_ends}
use Rattle.netlist_model.proofs.BlockLemmas.{flat, lists}
use Rattle.netlist_model.proofs.ticks.Ticks.is_ticked.Goals as goal

pub returns-in-Some : goal.returns-in-Some
returns-in-Some c =
    let ticks = flat (lists c.self.inside.blocks.items) in
    ap (nat_lt 0) (c.in-Some.ensures (ends_of ticks) c.self.invariant.3) ∙ sym (any_ends c.args.net ticks) ∙ ap (list_any (is_ticked c.args.net)) c.self.view_is

pub returns-in-None : goal.returns-in-None
returns-in-None c = c.any_ticked.ensures ∙ ap (λ bs. list_any (is_ticked c.args.net) (flat (lists bs))) c.deref.ensures.value ∙ ap (list_any (is_ticked c.args.net)) c.self.view_is
