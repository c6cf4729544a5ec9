use Rattle.session_calls.proofs.Stops.{fault_is_told}
use Rattle.session_calls.proofs.session.prepare.fault_told.Goals as goal

pub returns : goal.returns
returns c = λ all is. fault_is_told c.finding_is_unique.ensures all c.args.library.now c.args.netlist.now c.args.fault.now c.net_refusal.result c.net_refusal.ensures c.requires.holds c.sound.ensures is
