use Rattle.std.proofs.Common.{◌≡◌, length, ap, arith}
use Rattle.netlist_reader.proofs.Texts.{own_put, all_owns_written}
use Rattle.netlist_reader.proofs.writing.push_owns.Goals as goal

pub loop-at-preserved : goal.loop-at-preserved
loop-at-preserved c =
    let name : c.bytes.result.now ≡ c.args.inst.now.name = c.bytes.ensures in
    let lent : c.list-arcs.result.now ≡ c.args.cell.now.arcs = c.list-arcs.ensures in
    let owns : c.list-delays.result.now ≡ c.args.inst.now.delays = c.list-delays.ensures in
    own_put c.args.inst.now.name c.bytes.result.now c.args.cell.now.inputs c.args.cell.now.arcs c.list-arcs.result.now c.args.inst.now.delays c.list-delays.result.now c.loop-at.at _ _ _ _ _
    name lent owns (omega arith) (omega (arith, ap length lent, ap length owns)) c.in_ok-push_own.ensures c.loop-at.invariant

pub returns : goal.returns
returns c =
    let lent : c.list-arcs.result.now ≡ c.args.cell.now.arcs = c.list-arcs.ensures in
    all_owns_written c.args.inst.now.name c.args.cell.now.inputs c.args.cell.now.arcs c.args.inst.now.delays c.loop-at.at _ _ (omega (arith, ap length lent)) c.loop-at.invariant
