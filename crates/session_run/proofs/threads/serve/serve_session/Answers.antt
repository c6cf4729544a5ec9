use Rattle.std.proofs.Common.{◌≡◌, suc, ◌+◌, ◌∷◌, drop, Some, refl, sym, ap, ◌∙◌, subst, drop-cons, add-one}
use Rattle.std.proofs.Math.ListN.{drop_of_length-le}
use Rattle.turn_book.specs.Seats.{view}
use Rattle.session_script.specs.Calls.{is_shared}
use Rattle.query_replies.specs.Readings.{Analyses}
use Rattle.session_calls.specs.States.{Knows}
use Rattle.session_run.specs.Going.{rows_at}
use Rattle.session_run.specs.Seats.{Origin, IsAtRest, StartsFrom}
use Rattle.session_run.specs.Serving.{IsServing}
use Rattle.session_run.proofs.Serving.{serving_first, serving_last, left_next}
use Rattle.session_run.proofs.threads.serve.serve_session.Goals as goal

pub loop-call-init : goal.loop-call-init
loop-call-init g c = record {
  here = c.requires.book;
  seat = c.requires.fresh.rest;
  origin = refl;
  total = refl;
  follow = λ o is f. f;
  number = ap (λ s. s.number) c.new-session.ensures;
  serving = λ all o from.
      serving_first all o c.args.number c.args.script.now (view c.args.seat.now) c.new-session.result _ _ c.new-session.ensures c.new.ensures.items c.new-2.ensures.items c.requires.fresh.made c.requires.fresh.none c.requires.fresh.turns;
}

pub next_call-requires-clause-left : goal.next_call-requires-clause-left
next_call-requires-clause-left g c κs within = λ sh.
    let k = c.requires.fresh.known in
    let s = c.loop-call.invariant.serving k.0 k.1 k.2 in
    left_next (view c.loop-call.seat).left c.args.script.now c.loop-call.call-index c.call-item.result c.loop-call-test.true s.left (ap is_shared (sym c.call-item.is) ∙ sh)

pub next_call-requires-clause-known : goal.next_call-requires-clause-known
next_call-requires-clause-known g c κs within =
    let k = c.requires.fresh.known in
    let s = c.loop-call.invariant.serving k.0 k.1 k.2 in
    (k.0, k.1, record { origin = c.loop-call.invariant.origin ∙ k.2.origin; library = k.2.library }, s.over)

pub next_call-requires-clause-pin : goal.next_call-requires-clause-pin
next_call-requires-clause-pin g c κs within = λ o is.
    let k = c.requires.fresh.known in
    let begun : (view c.args.seat.now).origin ≡ Some o = sym c.loop-call.invariant.origin ∙ is in
    let old = k.2.origin in
    let same : k.1 ≡ o = cc (begun, old) in
    let s = c.loop-call.invariant.serving k.0 k.1 k.2 in
    subst (λ (x : Origin). Knows (rows_at x.base (view c.loop-call.seat).seen) c.loop-call.session) same s.going.knows

pub loop-call-preserved : goal.loop-call-preserved
loop-call-preserved g c =
    let i = c.loop-call.invariant in
    let k = c.requires.fresh.known in
    let origin : (view c.next_call.new.seat).origin ≡ (view c.args.seat.now).origin = c.next_call.ensures.origin ∙ i.origin in
    let serving : (all : Analyses) (o : Origin) → StartsFrom all (view c.args.seat.now) o → IsServing all o.base c.args.number c.args.script.now (view c.next_call.new.seat) c.next_call.new.session c.next_call.new.ran.replies.items c.next_call.new.ran.places.items (drop (c.loop-call.call-index + 1) c.args.script.now) =
    λ all o from. c.in_ok-next_call.ensures.serving all o c.args.number c.args.script.now (drop (c.loop-call.call-index + 1) c.args.script.now) (record { origin = i.origin ∙ from.origin; library = from.library })
    (subst (λ rest. IsServing all o.base c.args.number c.args.script.now (view c.loop-call.seat) c.loop-call.session c.loop-call.ran.replies.items c.loop-call.ran.places.items rest)
    (rw add-one (drop-cons c.args.script.now c.loop-call.call-index c.call-item.result c.loop-call-test.true ∙ ap (λ x. x ∷ drop (suc c.loop-call.call-index) c.args.script.now) (sym c.call-item.is))) (i.serving all o from)) in
    record {
      here = c.next_call.ensures.book;
      seat = subst (λ n. IsAtRest (view c.next_call.new.seat) n) i.number c.next_call.ensures.seat;
      origin = origin;
      total = c.next_call.ensures.total ∙ i.total;
      follow = λ o is f. c.in_ok-next_call.ensures.follow o (i.origin ∙ is) (i.follow o is f);
      number = (serving k.0 k.1 k.2).number;
      serving = serving;
    }

pub returns-clause-served : goal.returns-clause-served
returns-clause-served g c = λ all o from.
    serving_last all o c.args.number c.args.script.now (view c.loop-call.seat) c.loop-call.session _ _
    (subst (λ rest. IsServing all o.base c.args.number c.args.script.now (view c.loop-call.seat) c.loop-call.session c.loop-call.ran.replies.items c.loop-call.ran.places.items rest) (drop_of_length-le c.args.script.now c.loop-call-test.false) (c.loop-call.invariant.serving all o from))
