-- Rules as a search sees them that goes to its event along them, or from it. Words of the search's body alone.
use Rattle.std.specs.Prelude.{List, map}
use Rattle.rule_system.specs.declared.rules.Rule.{Rule}
use Rattle.first_cycle.specs.declared.levels.Way.{Way}
use Rattle.first_cycle.specs.declared.levels.Way.TheVariants.{To, From}

-- a rule turned round: a walk from an event is a walk to it of the rules turned round
abbrev pub turned : Rule → Rule
turned rule = record { source = rule.target; target = rule.source; delay = rule.delay; offset = rule.offset }

-- the rules, turned round where walks lead from the event
abbrev pub rules_along : Way → List Rule → List Rule
rules_along To rules = rules
rules_along From rules = map turned rules
