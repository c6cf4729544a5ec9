use Rattle.std.proofs.Common.{sym, ◌∙◌}
use Rattle.session_script.specs.Calls.{is_shared}
use Rattle.session_calls.proofs.Rows.{over_rows}
use Rattle.session_run.proofs.Playing.{did_by, did_local}
use Rattle.session_run.proofs.play.reply_to.Goals as goal

pub returns-then-is_shared-clause-did : goal.returns-then-is_shared-clause-did
returns-then-is_shared-clause-did g c = λ all base.
    did_by (is_shared c.args.call.now) all c.args.hall.now c.shared_call.new.hall c.args.session.now c.shared_call.new.session c.args.call.now c.shared_call.result
    (sym c.is_shared.ensures ∙ c.if-is_shared.true) (c.shared_call.ensures.did all base)

pub returns-clause-did : goal.returns-clause-did
returns-clause-did g c = λ all base.
    let over = over_rows all c.args.hall.now.base _ c.args.session.now c.is_chain.ensures base c.requires.known in
    did_local (is_shared c.args.call.now) all c.args.hall.now c.args.session.now c.step_local.new.self c.args.call.now c.step_local.result
    (sym c.is_shared.ensures ∙ c.if-is_shared.false) (c.step_local.ensures.reply all over) (c.step_local.ensures.session all over) c.step_local.ensures.pin.0 c.step_local.ensures.pin.1
