use Rattle.std.proofs.Common.{◌≡◌, [], drop}
use Rattle.netlist_model.specs.Wired.{all_wired}
use Rattle.netlist_model.proofs.wiring.wires_of.Given as goal

abbrev pub invariant-loop-pin : goal.invariant-loop-pin
invariant-loop-pin l = all_wired l.words l.refs [] l.pins ≡ all_wired l.words l.refs l.wires.items (drop l.pin-index l.pins)
