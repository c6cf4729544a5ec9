use Rattle.std.proofs.Common.{◌+◌, drop, ap, arith}
use Rattle.std.proofs.lemmas.List.{drop_all}
use Rattle.netlist_model.specs.Uses.{pins_on}
use Rattle.netlist_model.proofs.UseLemmas.{one_dropped, pins_same}
use Rattle.netlist_model.proofs.uses.PinUses.lower_all.Goals as goal

pub loop-pin-preserved : goal.loop-pin-preserved
loop-pin-preserved c = λ u told.
    let pins = c.args.pins.now in
    let i = c.loop-pin.pin-index in
    c.lower.ensures (λ r. u r + pins_on r (drop (i + 1) pins)) (pins_same _ _ _ (λ r. one_dropped u pins i _ r c.loop-pin-test.true) (c.loop-pin.invariant u told))

pub returns : goal.returns
returns c = λ u told.
    let pins = c.args.pins.now in
    pins_same _ (λ r. u r + pins_on r (drop c.loop-pin.pin-index pins)) u
    (λ r. omega (arith, ap (pins_on r) (drop_all c.loop-pin.pin-index pins (omega (arith, c.loop-pin-test.false)))))
    (c.loop-pin.invariant u told)
