use Rattle.std.proofs.Common.{◌≡◌, ◌+◌, ℕ, List, length, sym, ap, ◌∙◌, subst, refl, arith}
use Rattle.std.specs.Arc.{arc_value}
use Rattle.version_store.specs.declared.state.HallState.{HallState}
use Rattle.session_machine.specs.declared.replies.Reply.{Reply}
use Rattle.pinned_reader.specs.Rows.{RowState}
use Rattle.query_replies.specs.Served.{AreServed}
use Rattle.session_run.specs.declared.players.Player.{Player}
use Rattle.session_run.specs.Items.{Item}
use Rattle.session_run.specs.InTurn.{AreSeated, AreKnown, calls_of}
use Rattle.session_run.proofs.InTurns.{all_served}
use Rattle.session_run.proofs.Written.{written}
use Rattle.session_run.proofs.drive.serve_in_turn.Goals as goal

pub round-requires-clause-some : goal.round-requires-clause-some
round-requires-clause-some g c κs within =
    subst AreKnown (sym (c.loop-at.invariant.base ∙ (ap (λ (h : HallState RowState). h.base) c.in_ok-hall.ensures ∙ sym c.deref.ensures))) c.rows_are_told.ensures.some

pub loop-at-init : goal.loop-at-init
loop-at-init g c = record {
  seated = λ all b. subst (λ (l : List Item). AreSeated all c.in_ok-hall.hall.base l c.args.scripts.now c.in_ok-players.players.items 0 0) (sym (ap (λ (h : HallState RowState). h.items) c.in_ok-hall.ensures)) (c.in_ok-players.ensures all c.in_ok-hall.hall.base);
  base = refl;
  room = (let t = c.in-Some.ensures in let e : calls_of c.args.scripts.now ≡ 0 + c.in-Some.total = omega arith in e) ∙ ap (λ (x : HallState RowState). length x.items + x.room) (sym c.in_ok-hall.ensures);
}

pub loop-at-preserved : goal.loop-at-preserved
loop-at-preserved g c =
    let i = c.loop-at.invariant in
    let r = c.in_ok-round.ensures in
    let known : AreKnown c.loop-at.hall.base = subst AreKnown (sym (i.base ∙ (ap (λ (h : HallState RowState). h.base) c.in_ok-hall.ensures ∙ sym c.deref.ensures))) c.rows_are_told.ensures.some in
    let before = (i.seated known.0 known.1).many in
    let after = (r.seated known.0 (ap (λ (b : RowState). b.library) r.base ∙ known.1)).many in
    let whole = written c.round.new.players c.loop-at.players.items c.loop-at.players.len (after ∙ sym before) c.loop-at.players.ok.0 in
    record {
      seated = λ all b. subst (λ (l : List Player). AreSeated all c.round.new.hall.base c.round.new.hall.items c.args.scripts.now l 0 (c.loop-at.at + 1)) (sym whole) (r.seated all b);
      base = r.base ∙ i.base;
      room = r.room;
    }

pub returns : goal.returns
returns g c =
    let i = c.loop-at.invariant in
    let base : c.loop-at.hall.base ≡ arc_value c.args.base = i.base ∙ ap (λ (h : HallState RowState). h.base) c.in_ok-hall.ensures in
    let known : AreKnown c.loop-at.hall.base = subst AreKnown (sym (base ∙ sym c.deref.ensures)) c.rows_are_told.ensures.some in
    let served = all_served c.sessions_are_one_order.ensures c.loop-at.hall.base c.loop-at.hall.items c.args.scripts.now c.loop-at.players.items c.loop-at.at known
    (record { seated = i.seated; past = λ k d lt. let m = c.longest-most.ensures k d lt in let t = c.loop-at-test.false in omega arith }) in
    subst (λ (b : RowState). AreServed b.library b.netlist c.args.scripts.now c.in_ok-order.order c.in_ok-replies.replies) base
    (subst (λ (q : List ℕ × List (List Reply)). AreServed c.loop-at.hall.base.library c.loop-at.hall.base.netlist c.args.scripts.now q.0 q.1) (λ j. (sym c.in_ok-order.ensures j, sym c.in_ok-replies.ensures j)) served)

pub round-requires-clause-seated : goal.round-requires-clause-seated
round-requires-clause-seated g c κs within = rw c.as_mut_slice.ensures.value c.loop-at.invariant.seated
