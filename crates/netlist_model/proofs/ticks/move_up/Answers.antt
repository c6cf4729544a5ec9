use Rattle.std.proofs.Common.{◌≡◌, length, sym, ap, ◌∙◌, map, rules, arith}
use Rattle.std.proofs.lemmas.List.{length-map}
use Rattle.netlist_model.specs.Deletions.{tick_after}
use Rattle.netlist_model.specs.Uses.{ends_of}
use Rattle.netlist_model.proofs.BlockLemmas.{Block, flat, lists}
use Rattle.netlist_model.proofs.LeftTicks.{whole}
use Rattle.netlist_model.proofs.TickLemmas.{blocks_still}
use Rattle.netlist_model.proofs.ticks.move_up.Goals as goal

pub returns-then-is_last : goal.returns-then-is_last
returns-then-is_last c =
    let old = lists c.args.blocks.now.items in
    sym (blocks_still c.args.gone old c.requires.free (c.is_last.ensures c.if-is_last.true (ends_of (flat old)) c.requires.tells))

pub returns : goal.returns
returns c =
    let f = tick_after c.args.gone in
    let old = c.args.blocks.now.items in
    let new = c.leave_blocks.new.blocks in
    let left : lists new ≡ map (map f) (lists old) = c.leave_blocks.ensures ∙ ap (λ bs. map (map f) (lists bs)) c.deref_mut.ensures.value in
    let same : length new ≡ length old = omega (arith, length-map new (λ (b : Block). b.items), length-map old (λ (b : Block). b.items), length-map (lists old) (map f), ap length left) in
    let count : c.args.blocks.now.len ≡ length old = search rules in
    ap lists (whole new old c.args.blocks.now.len same count) ∙ left
