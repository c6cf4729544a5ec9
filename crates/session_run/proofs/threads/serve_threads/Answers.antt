use Rattle.std.proofs.Common.{◌≡◌, List, length, sym, ap, ◌∙◌, subst, arith}
use Rattle.std.proofs.lemmas.List.Elements.{All-from_recursion}
use Rattle.turn_book.specs.Seats.{view}
use Rattle.session_run.specs.declared.threads.ran.Ran.{Ran}
use Rattle.session_run.specs.Seats.{Origin}
use Rattle.session_run.specs.Jobs.{IsReadyJob, IsTop, AreAlong}
use Rattle.session_run.specs.Filled.{IsPlaced}
use Rattle.session_run.proofs.Joins.{all_ready, all_done}
use Rattle.session_run.proofs.Finals.{IsWhole, whole, ended_all, served_along}
use Rattle.session_run.proofs.threads.serve_threads.Goals as goal

pub serve_half-requires-after_bounds : goal.serve_half-requires-after_bounds
serve_half-requires-after_bounds g c = λ κs lives. All-from_recursion (IsReadyJob c.args.book.now) c.in_ok-jobs.jobs.items (all_ready c.args.book.now (view c.args.seat.now).origin 1 c.args.scripts.now c.in_ok-jobs.jobs.items c.in_ok-jobs.ensures.jobs)

pub join_all-requires-clause-dones : goal.join_all-requires-clause-dones
join_all-requires-clause-dones g c =
    ((view c.args.seat.now).origin, c.args.scripts.now, all_done c.args.book.now (view c.args.seat.now).origin 1 c.args.scripts.now c.in_ok-jobs.jobs.items c.in_ok-dones.dones.items c.in_ok-jobs.ensures.jobs c.in_ok-dones.ensures)

pub order_of-requires-clause-few : goal.order_of-requires-clause-few
order_of-requires-clause-few g c =
    let origin = (view c.args.seat.now).origin in
    let k = c.requires.known in
    let row = c.in_ok-rans.ensures.joined origin c.args.scripts.now (all_done c.args.book.now origin 1 c.args.scripts.now c.in_ok-jobs.jobs.items c.in_ok-dones.dones.items c.in_ok-jobs.ensures.jobs c.in_ok-dones.ensures) in
    let w : IsWhole k.1 c.args.scripts.now (view c.join_all.new.seat) c.in_ok-rans.rans.items = whole k.0 k.1 origin c.args.scripts.now (view c.join_all.new.seat) (view c.split_all.new.seat).given c.in_ok-rans.rans.items k.2.origin k.2.library c.in_ok-jobs.ensures.top.given_is c.join_all.ensures.top row in
    let f = w.few in
    let s = ap length c.as_slice.ensures.value in
    let few = c.requires.few in
    omega arith

pub order_of-requires-clause-placed : goal.order_of-requires-clause-placed
order_of-requires-clause-placed g c =
    let origin = (view c.args.seat.now).origin in
    let k = c.requires.known in
    let row = c.in_ok-rans.ensures.joined origin c.args.scripts.now (all_done c.args.book.now origin 1 c.args.scripts.now c.in_ok-jobs.jobs.items c.in_ok-dones.dones.items c.in_ok-jobs.ensures.jobs c.in_ok-dones.ensures) in
    let w : IsWhole k.1 c.args.scripts.now (view c.join_all.new.seat) c.in_ok-rans.rans.items = whole k.0 k.1 origin c.args.scripts.now (view c.join_all.new.seat) (view c.split_all.new.seat).given c.in_ok-rans.rans.items k.2.origin k.2.library c.in_ok-jobs.ensures.top.given_is c.join_all.ensures.top row in
    ((view c.join_all.new.seat).seen, subst (λ (rs : List Ran). IsPlaced rs (view c.join_all.new.seat).seen) (sym c.as_slice.ensures.value) w.placed)

pub returns-clause-top : goal.returns-clause-top
returns-clause-top g c = subst (λ n. IsTop (view c.join_all.new.seat) n) c.in_ok-jobs.ensures.top.given_is c.join_all.ensures.top

pub returns-clause-ended : goal.returns-clause-ended
returns-clause-ended g c =
    let origin = (view c.args.seat.now).origin in
    let row = c.in_ok-rans.ensures.joined origin c.args.scripts.now (all_done c.args.book.now origin 1 c.args.scripts.now c.in_ok-jobs.jobs.items c.in_ok-dones.dones.items c.in_ok-jobs.ensures.jobs c.in_ok-dones.ensures) in
    ended_all origin c.args.scripts.now (view c.join_all.new.seat) c.in_ok-rans.rans.items (c.join_all.ensures.top.given_is ∙ c.in_ok-jobs.ensures.top.given_is) row

pub returns-clause-along : goal.returns-clause-along
returns-clause-along g c = λ all o from.
    let origin = (view c.args.seat.now).origin in
    let row = c.in_ok-rans.ensures.joined origin c.args.scripts.now (all_done c.args.book.now origin 1 c.args.scripts.now c.in_ok-jobs.jobs.items c.in_ok-dones.dones.items c.in_ok-jobs.ensures.jobs c.in_ok-dones.ensures) in
    let w : IsWhole o c.args.scripts.now (view c.join_all.new.seat) c.in_ok-rans.rans.items = whole all o origin c.args.scripts.now (view c.join_all.new.seat) (view c.split_all.new.seat).given c.in_ok-rans.rans.items from.origin from.library c.in_ok-jobs.ensures.top.given_is c.join_all.ensures.top row in
    let placed : IsPlaced c.as_slice.result.now (view c.join_all.new.seat).seen = subst (λ (rs : List Ran). IsPlaced rs (view c.join_all.new.seat).seen) (sym c.as_slice.ensures.value) w.placed in
    subst (AreAlong all o c.args.scripts.now (view c.join_all.new.seat) c.in_ok-order.order) (sym c.in_ok-replies.ensures)
    (w.along c.sessions_are_one_order.ensures all from.library c.in_ok-order.order (c.in_ok-order.ensures (view c.join_all.new.seat).seen placed))

pub returns-clause-served : goal.returns-clause-served
returns-clause-served g c = λ o is.
    let origin = (view c.args.seat.now).origin in
    let k = c.requires.known in
    let same : k.1 ≡ o = cc (k.2.origin, is) in
    let known : o.base.library ≡ k.0.library = ap (λ (x : Origin). x.base.library) (sym same) ∙ k.2.library in
    let row = c.in_ok-rans.ensures.joined origin c.args.scripts.now (all_done c.args.book.now origin 1 c.args.scripts.now c.in_ok-jobs.jobs.items c.in_ok-dones.dones.items c.in_ok-jobs.ensures.jobs c.in_ok-dones.ensures) in
    let w : IsWhole o c.args.scripts.now (view c.join_all.new.seat) c.in_ok-rans.rans.items = whole k.0 o origin c.args.scripts.now (view c.join_all.new.seat) (view c.split_all.new.seat).given c.in_ok-rans.rans.items is known c.in_ok-jobs.ensures.top.given_is c.join_all.ensures.top row in
    let placed : IsPlaced c.as_slice.result.now (view c.join_all.new.seat).seen = subst (λ (rs : List Ran). IsPlaced rs (view c.join_all.new.seat).seen) (sym c.as_slice.ensures.value) w.placed in
    served_along k.0 o c.args.scripts.now (view c.join_all.new.seat) c.in_ok-order.order c.in_ok-replies.replies known
    (λ all over. subst (AreAlong all o c.args.scripts.now (view c.join_all.new.seat) c.in_ok-order.order) (sym c.in_ok-replies.ensures)
    (w.along c.sessions_are_one_order.ensures all over c.in_ok-order.order (c.in_ok-order.ensures (view c.join_all.new.seat).seen placed)))
