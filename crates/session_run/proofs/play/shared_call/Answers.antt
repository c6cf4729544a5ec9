use Rattle.query_replies.specs.Readings.{Analyses}
use Rattle.session_calls.specs.States.{IsOver, rows, act_on}
use Rattle.session_calls.proofs.Rows.{over_rows}
use Rattle.session_run.proofs.Playing.{did_shared}
use Rattle.session_run.proofs.play.shared_call.Goals as goal

pub act-taken-requires-clause-ready : goal.act-taken-requires-clause-ready
act-taken-requires-clause-ready g c =
    let all : Analyses = c.requires.some.0 in
    let over : IsOver all c.args.session.now = over_rows all c.args.hall.now.base _ c.args.session.now c.is_chain.ensures c.requires.some.1 c.requires.known in
    (all, c.args.call.now, c.in_ok-ready.ensures all over)

pub finish-requires : goal.finish-requires
finish-requires g c =
    let all : Analyses = c.requires.some.0 in
    let over : IsOver all c.args.session.now = over_rows all c.args.hall.now.base _ c.args.session.now c.is_chain.ensures c.requires.some.1 c.requires.known in
    let turned = c.act-taken.ensures.turned all c.args.call.now c.requires.some.1 (c.in_ok-ready.ensures all over) in
    (act_on all (rows c.args.hall.now) c.args.session.now c.args.call.now, turned.taken.act)

pub returns-clause-did : goal.returns-clause-did
returns-clause-did g c = λ all base.
    let over : IsOver all c.args.session.now = over_rows all c.args.hall.now.base _ c.args.session.now c.is_chain.ensures base c.requires.known in
    let turned = c.act-taken.ensures.turned all c.args.call.now base (c.in_ok-ready.ensures all over) in
    did_shared all c.args.hall.now c.act-taken.new.hall c.args.session.now c.finish.new.self c.args.call.now c.in_ok-ready.ready c.finish.result turned.entered c.act-taken.ensures.chain
    (c.finish.ensures.finishes (act_on all (rows c.args.hall.now) c.args.session.now c.args.call.now) (rows c.act-taken.new.hall) turned.taken)
