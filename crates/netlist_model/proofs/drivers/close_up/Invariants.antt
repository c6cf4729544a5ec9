use Rattle.std.proofs.Common.{◌≡◌, ◌++◌, map, take, drop}
use Rattle.netlist_model.specs.Keyed.{place_after}
use Rattle.netlist_model.proofs.drivers.close_up.Given as goal

abbrev pub invariant-loop-driver : goal.invariant-loop-driver
invariant-loop-driver l = l.drivers ≡ map (place_after l.gone) (take l.driver-index l.fn.drivers) ++ drop l.driver-index l.fn.drivers
