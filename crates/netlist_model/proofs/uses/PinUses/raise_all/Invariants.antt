use Rattle.std.proofs.Common.{ℕ, ◌+◌, take}
use Rattle.netlist_model.specs.Uses.{TellsPins, pins_on}
use Rattle.netlist_model.specs.declared.parts.NetRef.{NetRef}
use Rattle.netlist_model.proofs.uses.PinUses.raise_all.Given as goal

abbrev pub invariant-loop-pin : goal.invariant-loop-pin
invariant-loop-pin l = (u : NetRef → ℕ) → TellsPins l.fn.self u → TellsPins l.self (λ r. u r + pins_on r (take l.pin-index l.pins))
