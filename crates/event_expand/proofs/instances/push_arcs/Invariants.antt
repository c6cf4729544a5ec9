use Rattle.std.proofs.Common.{◌≡◌, ◌++◌, map, drop}
use Rattle.netlist_model.specs.Expansion as spec
use Rattle.event_expand.specs.Systems.{system_rule}
use Rattle.event_expand.proofs.instances.push_arcs.Given as goal

abbrev pub invariant-arcs : goal.invariant-arcs
invariant-arcs l =
    l.rules.items ++ map system_rule (spec.rules_of_arcs l.net.ticks l.instance l.place (drop l.place l.cell.arcs))
    ≡ l.initial.rules.items ++ map system_rule (spec.rules_of_arcs l.net.ticks l.instance 0 l.cell.arcs)
