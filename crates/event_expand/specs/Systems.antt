-- The event-rule system of a netlist, and the forks of the system.
use Rattle.std.specs.Prelude.{◌*◌, List, map, length}
use Rattle.cell_arcs.specs.declared.cells.Cell.{Cell}
use Rattle.fork_slack.specs.declared.slacks.ForkOf.{ForkOf}
use Rattle.netlist_model.specs.Circuit.{Circuit}
use Rattle.netlist_model.specs.Expansion as netlist
use Rattle.netlist_model.specs.declared.parts.Fork.{Fork}
use Rattle.rule_system.specs.Bounds.{EventRules}
use Rattle.rule_system.specs.declared.rules.Rule.{Rule}

-- a rule of the expansion as a rule of a system
abbrev pub system_rule : netlist.Rule → Rule
system_rule r = record { source = r.source; target = r.target; delay = r.delay; offset = r.offset }

-- the rules of a netlist's system: those of the expansion, in its order
abbrev pub system_rules : List Cell → Circuit → List Rule
system_rules library c = map system_rule (netlist.rules_of library c)

-- the system: two events for each net with events, and these rules
abbrev pub system_of : List Cell → Circuit → EventRules
system_of library c = record { events = 2 * length c.nets; rules = system_rules library c }

-- a fork of a netlist as a fork of its system
abbrev pub system_fork : Fork → ForkOf
system_fork f = record { root = f.root; fast = f.fast; slow = f.slow; margin = f.margin; offset = f.offset }

-- the forks of a netlist's system, in order
abbrev pub system_forks : Circuit → List ForkOf
system_forks c = map system_fork c.forks
