use Rattle.std.proofs.Common.{◌≡◌, ◌+◌, ◌∷◌, ◌++◌, [], List, length, take, drop, get_or, sym, ap, ◌∙◌, subst, arith, length-take}
use Rattle.std.proofs.lemmas.List.{take_more}
use Rattle.turn_book.specs.Seats.{view}
use Rattle.version_store.specs.Turns.{HasCalls}
use Rattle.session_script.specs.Calls.{is_shared}
use Rattle.session_script.specs.declared.calls.Call.{Call}
use Rattle.session_machine.specs.Orders.{shared_calls}
use Rattle.session_run.specs.declared.threads.jobs.Job.{Job}
use Rattle.session_run.specs.InTurn.{calls_of}
use Rattle.session_run.specs.Seats.{SeatView, IsKnown}
use Rattle.session_run.specs.Jobs.{IsJob, Each}
use Rattle.session_run.proofs.Joins.{each_more, calls_more, ready_job}
use Rattle.session_run.proofs.threads.splits.split_all.Goals as goal

pub loop-script-preserved : goal.loop-script-preserved
loop-script-preserved c =
    let i = c.loop-script.invariant in
    let v : SeatView = view c.loop-script.seat in
    let x : List Call = c.script-item.result in
    let idx = c.loop-script.script-index in
    let all = c.args.scripts.now in
    let turns = c.count_shared-turns.result in
    let counted : turns ≡ shared_calls is_shared x = c.count_shared-turns.ensures ∙ ap (shared_calls is_shared) c.list-calls.ensures in
    let split = c.split-other.ensures in
    let job : Job = record { seat = c.split-other.result; number = c.loop-script.number + 1; script = c.list-calls.result } in
    let item : get_or all idx x ≡ x = sym c.script-item.is in
    let rest = calls_more all idx x c.loop-script-test.true ∙ ap (λ (y : List Call). shared_calls is_shared y + calls_of (drop (idx + 1) all)) item in
    let known : IsKnown v = (c.requires.known.0, c.requires.known.1, record { origin = i.origin ∙ c.requires.known.2.origin; library = c.requires.known.2.library }) in
    let room : HasCalls v = (c.requires.room.0, i.origin ∙ c.requires.room.1, (let t = i.total in let r = c.requires.room.2 in omega arith)) in
    record {
      here = split.book;
      role = ap (λ (w : SeatView). w.role) split.seat ∙ i.role;
      given = ap (λ (w : SeatView). w.given) split.seat ∙ ap (λ n. n + 1) i.given;
      number = ap (λ n. n + 1) i.number;
      seen = ap (λ (w : SeatView). w.seen) split.seat ∙ i.seen;
      ended = ap (λ (w : SeatView). w.ended) split.seat ∙ i.ended;
      left = ap (λ (w : SeatView). w.left) split.seat ∙ (let l = i.left in omega arith);
      origin = ap (λ (w : SeatView). w.origin) split.seat ∙ i.origin;
      total = ap (λ (w : SeatView). w.total) split.seat ∙ i.total;
      count = let n = i.count in let l = c.push_reserved.ensures.len in omega arith;
      room = c.push_reserved.ensures.capacity ∙ i.room;
      jobs =
          let ready = ready_job c.args.book.now job v turns split.new split.new_book (let a = i.given in let b = i.number in omega arith) i.seen known room (counted ∙ ap (shared_calls is_shared) (sym c.list-calls.ensures)) in
          let is : IsJob c.args.book.now (view c.args.seat.now).origin (1 + length (take idx all)) x job = record {
            ready = ready;
            number = let n = i.number in let l = length-take idx all in let t = c.loop-script-test.true in omega arith;
            origin_is = ap (λ (w : SeatView). w.origin) split.new ∙ i.origin;
            script_is = c.list-calls.ensures;
          } in
          subst (λ l. Each (IsJob c.args.book.now (view c.args.seat.now).origin) 1 l c.push_reserved.new.self.items) (sym (take_more all idx x c.loop-script-test.true ∙ ap (λ (y : List Call). take idx all ++ y ∷ []) item))
          (subst (Each (IsJob c.args.book.now (view c.args.seat.now).origin) 1 _) (sym c.push_reserved.ensures.items) (each_more (IsJob c.args.book.now (view c.args.seat.now).origin) 1 (take idx all) _ x job i.jobs is));
    }
