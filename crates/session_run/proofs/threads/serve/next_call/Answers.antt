use Rattle.std.proofs.Common.{◌≡◌, ℕ, List, [], ◌∷◌, ◌++◌, true, false, sym, ap, ◌∙◌, subst}
use Rattle.turn_book.specs.Seats.{view}
use Rattle.version_store.specs.Halls.{Chain, rows_of}
use Rattle.session_script.specs.Calls.{is_shared}
use Rattle.session_machine.specs.declared.replies.Reply.{Reply}
use Rattle.pinned_reader.specs.Rows.{RowState, IsAfter}
use Rattle.session_run.specs.Items.{Item}
use Rattle.session_run.specs.Seats.{Origin, SeatView}
use Rattle.session_run.specs.Serving.{IsServing}
use Rattle.session_run.proofs.Serving.{serving_local, serving_turn}
use Rattle.session_run.proofs.threads.serve.next_call.Goals as goal

pub returns-in_ok-place-clause-serving : goal.returns-in_ok-place-clause-serving
returns-in_ok-place-clause-serving g c = λ all o n script rest from now.
    let sh : is_shared c.args.call.now ≡ true = sym c.is_shared.ensures ∙ c.if-is_shared.true in
    let rs : c.push_reserved-then-is_shared.new.self.items ≡ c.args.ran.now.replies.items ++ c.in_ok-place.reply ∷ [] = c.push_reserved-then-is_shared.ensures.items ∙ ap (λ l. l ++ c.in_ok-place.reply ∷ []) c.reserve.ensures.items in
    let ps : c.push_reserved.new.self.items ≡ c.args.ran.now.places.items ++ c.in_ok-place.place ∷ [] = c.push_reserved.ensures.items ∙ ap (λ l. l ++ c.in_ok-place.place ∷ []) c.reserve-then-is_shared.ensures.items in
    subst (λ (p : List Reply × List ℕ). IsServing all o.base n script (view c.shared_call.new.seat) c.shared_call.new.session p.0 p.1 rest) (λ i. (sym rs i, sym ps i))
    (serving_turn all o n script (view c.args.seat.now) c.args.session.now c.shared_call.new.session c.args.ran.now.replies.items c.args.ran.now.places.items c.args.call.now rest c.in_ok-place.reply now
    (view c.shared_call.new.seat) c.in_ok-place.place from.library sh (c.requires.seat.number_is ∙ now.number) (c.in_ok-place.ensures.turn all o from now.over))

pub returns-in_ok-reply-clause-serving : goal.returns-in_ok-reply-clause-serving
returns-in_ok-reply-clause-serving g c = λ all o n script rest from now.
    let sh : is_shared c.args.call.now ≡ false = sym c.is_shared.ensures ∙ c.if-is_shared.false in
    let rs : c.push_reserved-else-is_shared.new.self.items ≡ c.args.ran.now.replies.items ++ c.in_ok-reply.reply ∷ [] = c.push_reserved-else-is_shared.ensures.items ∙ ap (λ l. l ++ c.in_ok-reply.reply ∷ []) c.reserve.ensures.items in
    subst (λ l. IsServing all o.base n script (view c.args.seat.now) c.step_local.new.self l c.args.ran.now.places.items rest) (sym rs)
    (serving_local all o n script (view c.args.seat.now) c.args.session.now c.step_local.new.self c.args.ran.now.replies.items c.args.ran.now.places.items c.args.call.now rest c.in_ok-reply.reply now
    sh (c.in_ok-reply.ensures.session all now.over) (c.in_ok-reply.ensures.reply all now.over) c.in_ok-reply.ensures.pin.0 c.in_ok-reply.ensures.pin.1)

pub returns-in_ok-place-clause-follow : goal.returns-in_ok-place-clause-follow
returns-in_ok-place-clause-follow g c = λ o is f.
    let k = c.requires.known in
    let turn = c.in_ok-place.ensures.turn k.0 k.1 k.2 k.3 in
    let same : k.1 ≡ o = cc (k.2.origin, is) in
    subst (λ (b : RowState). Chain IsAfter b (rows_of (view c.shared_call.new.seat).seen)) (ap (λ (x : Origin). x.base) same)
    (subst (λ (l : List Item). Chain IsAfter k.1.base (rows_of l)) (sym (ap (λ (v : SeatView). v.seen) turn.after)) turn.chain)
