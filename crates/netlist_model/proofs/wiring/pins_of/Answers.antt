use Rattle.std.proofs.Common.{◌≡◌, [], Some, None, length, arith, rules}
use Rattle.netlist_model.specs.Sound.{IsPin}
use Rattle.netlist_model.specs.Wired.{all_wired, wired}
use Rattle.netlist_model.proofs.WiredPins.{all_wired_each, all_wired_within, output_missing, pins_found, pins_missing, wired_within}
use Rattle.netlist_model.proofs.wiring.pins_of.Goals as goal

pub returns-in_default-clause-refused : goal.returns-in_default-clause-refused
returns-in_default-clause-refused c = λ _.
    let none : all_wired c.args.words.now c.in_ok-wires.wires.items [] c.args.cell.now.inputs ≡ None = search rules in
    pins_missing _ _ _ _ c.in_ok-wires.wires.items c.in_ok-wires.ensures.ok c.in_ok-wires.ensures.found none

pub returns-in_default-wire_of-clause-refused : goal.returns-in_default-wire_of-clause-refused
returns-in_default-wire_of-clause-refused c = λ _.
    let some : all_wired c.args.words.now c.in_ok-wires.wires.items [] c.args.cell.now.inputs ≡ Some c.in-Some.inputs.items = search rules in
    let none : wired c.args.words.now c.in_ok-wires.wires.items c.args.cell.now.output ≡ None = search rules in
    output_missing _ _ _ _ c.in_ok-wires.wires.items c.in-Some.inputs.items c.in_ok-wires.ensures.ok c.in_ok-wires.ensures.found some none

pub returns-clause-ok : goal.returns-clause-ok
returns-clause-ok c =
    let some : all_wired c.args.words.now c.in_ok-wires.wires.items [] c.args.cell.now.inputs ≡ Some c.in-Some.inputs.items = search rules in
    let last : wired c.args.words.now c.in_ok-wires.wires.items c.args.cell.now.output ≡ Some c.in-Some-wire_of.output = search rules in
    pins_found _ _ _ _ c.in_ok-wires.wires.items c.in-Some.inputs.items c.in-Some-wire_of.output c.in_ok-wires.ensures.ok c.in_ok-wires.ensures.found some last

pub returns-clause-within : goal.returns-clause-within
returns-clause-within c =
    let some : all_wired c.args.words.now c.in_ok-wires.wires.items [] c.args.cell.now.inputs ≡ Some c.in-Some.inputs.items = search rules in
    all_wired_within (IsPin (length c.args.nets.now) (length c.args.consts.now)) c.args.words.now c.in_ok-wires.wires.items [] c.args.cell.now.inputs c.in-Some.inputs.items c.in_ok-wires.ensures.within (search rules) some

pub returns-clause-output : goal.returns-clause-output
returns-clause-output c =
    let last : wired c.args.words.now c.in_ok-wires.wires.items c.args.cell.now.output ≡ Some c.in-Some-wire_of.output = search rules in
    wired_within (IsPin (length c.args.nets.now) (length c.args.consts.now)) c.args.words.now c.in_ok-wires.wires.items c.args.cell.now.output c.in-Some-wire_of.output c.in_ok-wires.ensures.within last

pub returns-clause-each : goal.returns-clause-each
returns-clause-each c =
    let some : all_wired c.args.words.now c.in_ok-wires.wires.items [] c.args.cell.now.inputs ≡ Some c.in-Some.inputs.items = search rules in
    omega (arith, all_wired_each c.args.words.now c.in_ok-wires.wires.items [] c.args.cell.now.inputs c.in-Some.inputs.items some)
