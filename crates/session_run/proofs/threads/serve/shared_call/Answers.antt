use Rattle.std.proofs.Common.{◌≡◌, List, [], ◌∷◌, ◌++◌, sym, ap, ◌∙◌, refl, subst}
use Rattle.version_store.specs.declared.state.HallState.{HallState}
use Rattle.version_store.specs.Halls.{item, rows_of, Chain}
use Rattle.turn_book.specs.Views.{after_turn}
use Rattle.turn_book.specs.Seats.{view, turn_list, turn_value}
use Rattle.pinned_reader.specs.Rows.{RowState, IsAfter}
use Rattle.session_calls.specs.States.{SessionState, rows, Knows, act_on}
use Rattle.session_calls.specs.Turns.{Finishes, noted_act}
use Rattle.session_run.specs.Items.{Item}
use Rattle.session_run.specs.Going.{rows_at}
use Rattle.session_run.specs.Seats.{Origin, SeatView}
use Rattle.session_run.proofs.Going.{knows_later, knows_more, rows_append}
use Rattle.session_run.proofs.Noted.{noted_is}
use Rattle.session_run.proofs.threads.serve.shared_call.Goals as goal

pub act-taken-requires-clause-ready : goal.act-taken-requires-clause-ready
act-taken-requires-clause-ready g c = let k = c.requires.known in (k.0, c.args.call.now, c.in_ok-ready.ensures k.0 k.3)

pub act-taken-requires-clause-known : goal.act-taken-requires-clause-known
act-taken-requires-clause-known g c =
    let k = c.requires.known in
    let o : Origin = k.1 in
    let t = c.take_turn-turn.ensures in
    let base : o.base ≡ (turn_value c.take_turn-turn.result).base = let a = t.origin in let b = k.2.origin in cc (a, b) in
    let is : rows_at o.base (turn_list c.take_turn-turn.result) ≡ rows c.value.result.now = (λ i. base i ∷ rows_of (sym t.list i)) ∙ ap rows (sym c.value.ensures.value) in
    subst (λ rs. Knows rs c.args.session.now) is (knows_later o.base (view c.args.seat.now).seen (turn_list c.take_turn-turn.result) c.args.session.now t.seen (c.requires.pin o k.2.origin))

pub finish-requires : goal.finish-requires
finish-requires g c =
    let k = c.requires.known in
    let o : Origin = k.1 in
    let t = c.take_turn-turn.ensures in
    let base : c.value.result.now.base ≡ o.base = ap (λ (h : HallState RowState). h.base) c.value.ensures.value ∙ (let a = t.origin in let b = k.2.origin in cc (a, b)) in
    let turned = c.act-taken.ensures.turned k.0 c.args.call.now (ap (λ (b : RowState). b.library) base ∙ k.2.library) (c.in_ok-ready.ensures k.0 k.3) in
    (act_on k.0 (rows c.value.result.now) c.args.session.now c.args.call.now, turned.taken.act)

pub returns-clause-turn : goal.returns-clause-turn
returns-clause-turn g c = λ all o from over.
    let s : SessionState = c.args.session.now in
    let h : HallState RowState = c.value.result.now in
    let k : HallState RowState = c.act-taken.new.hall in
    let t = c.take_turn-turn.ensures in
    let l : List Item = turn_list c.take_turn-turn.result in
    let base : o.base ≡ h.base = (let a = t.origin in let b = from.origin in let e : o.base ≡ (turn_value c.take_turn-turn.result).base = cc (a, b) in e) ∙ ap (λ (h : HallState RowState). h.base) (sym c.value.ensures.value) in
    let items : h.items ≡ l = ap (λ (h : HallState RowState). h.items) c.value.ensures.value ∙ t.list in
    let lib = ap (λ (b : RowState). b.library) (sym base) ∙ from.library in
    let ready = c.in_ok-ready.ensures all over in
    let turned = c.act-taken.ensures.turned all c.args.call.now lib ready in
    let e : Item = item (record { session = s.number; act = noted_act s c.in_ok-ready.ready }) turned.entered.row in
    let k_base : o.base ≡ k.base = base ∙ ap (λ (h : HallState RowState). h.base) (sym turned.entered.entry) in
    let k_items : k.items ≡ l ++ e ∷ [] = ap (λ (h : HallState RowState). h.items) turned.entered.entry ∙ ap (λ x. x ++ e ∷ []) items in
    let before : rows h ≡ rows_at o.base l = λ i. sym base i ∷ rows_of (items i) in
    let then : rows k ≡ rows_at o.base (l ++ e ∷ []) = λ i. sym k_base i ∷ rows_of (k_items i) in
    let m_is : act_on all (rows h) s c.args.call.now ≡ act_on all (rows_at o.base l) s c.args.call.now = ap (λ rs. act_on all rs s c.args.call.now) before in
    let known : Knows (rows_at o.base l) s = knows_later o.base (view c.args.seat.now).seen l s t.seen (c.requires.pin o from.origin) in
    let ends : Finishes s c.finish.new.self (act_on all (rows h) s c.args.call.now) (rows k) c.in_ok-reply.reply = c.in_ok-reply.ensures.finishes (act_on all (rows h) s c.args.call.now) (rows k) turned.taken in
    record {
      list = l;
      entry = e;
      after = c.give_back-place.ensures.seat e k_items ∙ ap (λ (x : SeatView). after_turn x l e) t.seat.1;
      begins = t.seen;
      mine = t.made;
      place_is = c.give_back-place.ensures.place;
      session = refl;
      act = noted_is all (rows_at o.base l) s c.args.call.now c.in_ok-ready.ready known ready;
      gives = turned.entered.gives ∙ ap (λ m. m.gives) m_is;
      ends = subst (λ rs. Finishes s c.finish.new.self (act_on all (rows_at o.base l) s c.args.call.now) rs c.in_ok-reply.reply) then (subst (λ m. Finishes s c.finish.new.self m (rows k) c.in_ok-reply.reply) m_is ends);
      chain = subst (λ (p : RowState × List Item). Chain IsAfter p.0 (rows_of p.1)) (λ i. (sym k_base i, k_items i)) c.act-taken.ensures.chain;
      longer = λ kn. subst (λ rs. Knows rs s) (sym (rows_append o.base l (e ∷ []))) (knows_more (rows_at o.base l) (rows_of (e ∷ [])) s (knows_later o.base (view c.args.seat.now).seen l s t.seen kn));
    }
