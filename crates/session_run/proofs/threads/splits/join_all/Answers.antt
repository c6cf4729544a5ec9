use Rattle.std.proofs.Common.{length, sym, ap, ◌∙◌, subst, arith}
use Rattle.turn_book.specs.Seats.{view}
use Rattle.session_run.specs.Seats.{SeatView}
use Rattle.session_run.specs.Jobs.{Joining}
use Rattle.session_run.proofs.Joins.{joining_more, joining_next, joining_last, nil_of_length}
use Rattle.session_run.proofs.threads.splits.join_all.Goals as goal

pub join-requires-clause-other_book : goal.join-requires-clause-other_book
join-requires-clause-other_book c =
    let d = c.requires.dones in
    let j = subst (Joining c.args.book.now d.0 (view c.loop-done.seat) 1 d.1 c.loop-done.rans.items) c.in-Some.ensures.steps.0 (c.loop-done.invariant.joining d.0 d.1 d.2) in
    (joining_next c.args.book.now d.0 (view c.loop-done.seat) 1 d.1 c.loop-done.rans.items c.in-Some.done _ j).0

pub join-requires-clause-session : goal.join-requires-clause-session
join-requires-clause-session c =
    let d = c.requires.dones in
    let j = subst (Joining c.args.book.now d.0 (view c.loop-done.seat) 1 d.1 c.loop-done.rans.items) c.in-Some.ensures.steps.0 (c.loop-done.invariant.joining d.0 d.1 d.2) in
    (joining_next c.args.book.now d.0 (view c.loop-done.seat) 1 d.1 c.loop-done.rans.items c.in-Some.done _ j).1.role

pub join-requires-clause-idle : goal.join-requires-clause-idle
join-requires-clause-idle c =
    let d = c.requires.dones in
    let j = subst (Joining c.args.book.now d.0 (view c.loop-done.seat) 1 d.1 c.loop-done.rans.items) c.in-Some.ensures.steps.0 (c.loop-done.invariant.joining d.0 d.1 d.2) in
    (joining_next c.args.book.now d.0 (view c.loop-done.seat) 1 d.1 c.loop-done.rans.items c.in-Some.done _ j).1.stage

pub loop-done-preserved : goal.loop-done-preserved
loop-done-preserved c =
    let i = c.loop-done.invariant in
    let e = c.join.ensures.seat in
    let w : SeatView = view c.join.new.seat in
    let steps = c.in-Some.ensures.steps.0 in
    record {
      here = c.join.ensures.book;
      top = record {
        role = ap (λ (v : SeatView). v.role) e ∙ i.top.role;
        given_is = ap (λ (v : SeatView). v.given) e ∙ i.top.given_is;
        all = c.join.ensures.numbers;
        each = c.join.ensures.pairs;
      };
      joining = λ origin scripts row.
          subst (λ rs. Joining c.args.book.now origin w 1 scripts rs c.next.new.self.rest.items) (sym c.push_reserved.ensures.items)
          (joining_more c.args.book.now origin (view c.loop-done.seat) w 1 scripts c.loop-done.rans.items c.in-Some.done _
          c.join.ensures.begun c.join.ensures.told (ap (λ (v : SeatView). v.ended) e)
          (subst (Joining c.args.book.now origin (view c.loop-done.seat) 1 scripts c.loop-done.rans.items) steps (i.joining origin scripts row)));
      count = let n = i.count in let l = c.push_reserved.ensures.len in let p = c.push_reserved.ensures.capacity in let s = ap length steps in omega arith;
    }

pub returns-clause-joined : goal.returns-clause-joined
returns-clause-joined c = λ origin scripts row. let h = c.in-None.ensures.steps in
    joining_last c.args.book.now origin (view c.loop-done.seat) 1 scripts c.loop-done.rans.items (subst (Joining c.args.book.now origin (view c.loop-done.seat) 1 scripts c.loop-done.rans.items) (nil_of_length c.loop-done.done-iterator.rest.items (sym c.loop-done.done-iterator.rest.ok.0 ∙ h.0)) (c.loop-done.invariant.joining origin scripts row))
