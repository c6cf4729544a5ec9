use Rattle.std.proofs.Common.{◌≡◌, ◌++◌, map, drop}
use Rattle.netlist_model.specs.Expansion as spec
use Rattle.event_expand.specs.Systems.{system_rule}
use Rattle.event_expand.proofs.arcs.push_edges.Given as goal

abbrev pub invariant-loop-pair : goal.invariant-loop-pair
invariant-loop-pair l =
    l.rules.items ++ map system_rule (map (spec.edge_rule l.net.ticks l.input l.output l.delay) (drop l.pair-index l.pair-items))
    ≡ l.initial.rules.items ++ map system_rule (map (spec.edge_rule l.net.ticks l.input l.output l.delay) l.pair-items)
