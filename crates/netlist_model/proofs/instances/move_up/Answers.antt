use Rattle.std.proofs.Common.{◌≡◌, length, sym, ap, ◌∙◌, map, rules}
use Rattle.netlist_model.specs.Deletions.{inst_after}
use Rattle.netlist_model.specs.Uses.{uses_of}
use Rattle.netlist_model.proofs.PinLemmas.{insts_still}
use Rattle.netlist_model.proofs.Taken.{written}
use Rattle.netlist_model.proofs.instances.move_up.Goals as goal

pub returns-then-is_last : goal.returns-then-is_last
returns-then-is_last c =
    let old = c.args.items.now.items in
    sym (insts_still c.args.gone old c.requires.free (c.is_last.ensures c.if-is_last.true (uses_of old) c.requires.tells))

pub returns : goal.returns
returns c =
    let old = c.args.items.now.items in
    let count : c.args.items.now.len ≡ length old = search rules in
    written (inst_after c.args.gone) c.leave_all.new.items old c.args.items.now.len (c.leave_all.ensures ∙ ap (map (inst_after c.args.gone)) c.deref_mut.ensures.value) count
