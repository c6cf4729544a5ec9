use Rattle.session_machine.specs.Sessions.{sessions}
use Rattle.session_machine.proofs.Calls.{each_call, order_followed, each_call_alone, no_further}
use Rattle.session_machine.proofs.laws.sessions_make_each_call.Goals as goal

pub returns-clause-calls : goal.returns-clause-calls
returns-clause-calls c = λ readings base. each_call (sessions readings base)

pub returns-clause-order : goal.returns-clause-order
returns-clause-order c = λ readings base. order_followed (sessions readings base)

pub returns-clause-alone : goal.returns-clause-alone
returns-clause-alone c = λ readings base. each_call_alone (sessions readings base)

pub returns-clause-further : goal.returns-clause-further
returns-clause-further c = λ readings base. no_further (sessions readings base)
