use Rattle.std.proofs.Common.{◌++◌, ◌∷◌, [], arith}
use Rattle.std.proofs.lemmas.Option.{slice_get-get_or}
use Rattle.netlist_reader.proofs.Texts.{pin_written}
use Rattle.netlist_reader.proofs.writing.push_pins.Goals as goal

pub loop-at-preserved : goal.loop-at-preserved
loop-at-preserved c =
    pin_written c.args.net.now.nets c.args.net.now.consts (c.args.cell.now.inputs ++ c.args.cell.now.output ∷ []) c.args.pins.now c.loop-at.at _ _ _ _ _
    c.pin_at-pin.ensures (slice_get-get_or c.args.pins.now c.loop-at.at _ (omega arith)) c.in_ok-push_pin.ensures c.loop-at.invariant
