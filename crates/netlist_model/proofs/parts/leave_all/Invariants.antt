use Rattle.std.proofs.Common.{◌≡◌, ◌++◌, map, take, drop}
use Rattle.netlist_model.specs.Deletions.{ref_after}
use Rattle.netlist_model.proofs.parts.leave_all.Given as goal

abbrev pub invariant-loop-pin : goal.invariant-loop-pin
invariant-loop-pin l = l.pins ≡ map (ref_after l.gone) (take l.pin-index l.fn.pins) ++ drop l.pin-index l.fn.pins
