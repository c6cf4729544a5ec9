use Rattle.std.proofs.Common.{◌≡◌, ◌++◌, map, take, drop}
use Rattle.netlist_model.specs.Deletions.{event_after}
use Rattle.netlist_model.proofs.forks.leave_events.Given as goal

abbrev pub invariant-loop-event : goal.invariant-loop-event
invariant-loop-event l = l.events ≡ map (event_after l.gone) (take l.event-index l.fn.events) ++ drop l.event-index l.fn.events
