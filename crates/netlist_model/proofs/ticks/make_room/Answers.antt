use Rattle.std.proofs.Common.{◌≡◌, ◌<◌, ◌≤◌, ◌-◌, length, sym, subst, refl, rules, arith, inl}
use Rattle.std.proofs.lemmas.Grind.{common_steps}
use Rattle.netlist_model.specs.Blocks.{Grown}
use Rattle.netlist_model.proofs.BlockLemmas.{lists, same_in, grown_push}
use Rattle.netlist_model.proofs.DriverLemmas.{set_get}
use Rattle.netlist_model.proofs.ticks.make_room.Goals as goal
use Rattle.netlist_model.proofs.ticks.make_room.Goals.{then-not-has_room+in_ok-block+in_ok-push, else-not-has_room}

pub returns-clause-grown : goal.returns-clause-grown
returns-clause-grown c =
    let grown : Grown (lists c.args.blocks.now.items) (lists c.if-not-has_room.blocks.items) =
    elim c.if-not-has_room.branch [
      | then-not-has_room+in_ok-block+in_ok-push w ↦ rw (w.blocks-is, w.in_ok-push.ensures.items) (grown_push c.args.blocks.now.items w.in_ok-block.block w.in_ok-block.ensures.items)
      | else-not-has_room w ↦ rw w.blocks-is (inl refl)
    ] in
    subst (Grown (lists c.args.blocks.now.items)) (sym (same_in c.if-not-has_room.blocks.items _ c.index_mut.result.now c.reserve.new.self c.index_mut.ensures.value c.reserve.ensures.items)) grown

pub returns-in_err-reserve-clause-grown : goal.returns-in_err-reserve-clause-grown
returns-in_err-reserve-clause-grown c =
    let grown : Grown (lists c.args.blocks.now.items) (lists c.if-not-has_room.blocks.items) =
    elim c.if-not-has_room.branch [
      | then-not-has_room+in_ok-block+in_ok-push w ↦ rw (w.blocks-is, w.in_ok-push.ensures.items) (grown_push c.args.blocks.now.items w.in_ok-block.block w.in_ok-block.ensures.items)
      | else-not-has_room w ↦ rw w.blocks-is (inl refl)
    ] in
    subst (Grown (lists c.args.blocks.now.items)) (sym (same_in c.if-not-has_room.blocks.items _ c.index_mut.result.now c.reserve.new.self c.index_mut.ensures.value c.reserve.ensures.items)) grown

pub returns-clause-room : goal.returns-clause-room
returns-clause-room c =
    let len : c.len-last.result ≡ length c.if-not-has_room.blocks.items = search rules in
    let some : 1 ≤ c.len-last.result = first_of (search rules, grind (arith, common_steps)) in
    let low : c.len-last.result - 1 < length c.if-not-has_room.blocks.items = omega arith in
    rw (set_get c.if-not-has_room.blocks.items (c.len-last.result - 1) c.reserve.new.self low) (omega (arith, c.in_ok-reserve.ensures.ok))
