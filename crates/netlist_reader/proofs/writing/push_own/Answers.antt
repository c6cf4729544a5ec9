use Rattle.netlist_reader.proofs.Texts.{own_line}
use Rattle.netlist_reader.proofs.writing.push_own.Goals as goal

pub returns : goal.returns
returns c =
    own_line c.args.inst.now c.args.cell.now.inputs c.args.cell.now.output c.args.arc c.args.own c.in-Some.delay c.pin_at-pin.result.now _ _ c.in-Some.is c.requires c.pin_at-pin.ensures c.in_ok-push_delay.ensures
