use Rattle.std.proofs.Common.{◌≡◌, [], take}
use Rattle.netlist_model.specs.Circuit.{kinds_after}
use Rattle.netlist_model.proofs.forks.kinds.Given as goal

abbrev pub invariant-loop-event : goal.invariant-loop-event
invariant-loop-event l = l.kinds.keys ≡ kinds_after [] (take l.event-index l.events)
