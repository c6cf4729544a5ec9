use Rattle.std.proofs.Common.{◌≡◌, ◌++◌, map, drop}
use Rattle.netlist_model.specs.EventNames.{event_name}
use Rattle.report_writer.proofs.netlist_lines.event_names.Given as goal

abbrev pub invariant-events : goal.invariant-events
invariant-events l = l.names.items ++ map (event_name l.netlist.nets) (drop l.event-index l.events) ≡ map (event_name l.netlist.nets) l.events
