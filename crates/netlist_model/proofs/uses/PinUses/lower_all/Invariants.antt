use Rattle.std.proofs.Common.{ℕ, ◌+◌, drop}
use Rattle.netlist_model.specs.Uses.{TellsPins, pins_on}
use Rattle.netlist_model.specs.declared.parts.NetRef.{NetRef}
use Rattle.netlist_model.proofs.uses.PinUses.lower_all.Given as goal

abbrev pub invariant-loop-pin : goal.invariant-loop-pin
invariant-loop-pin l = (u : NetRef → ℕ) → TellsPins l.fn.self (λ r. u r + pins_on r l.pins) → TellsPins l.self (λ r. u r + pins_on r (drop l.pin-index l.pins))
