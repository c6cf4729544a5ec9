use Rattle.std.proofs.Common.{◌≡◌, ◌++◌, map, drop}
use Rattle.rule_system.specs.Rules.{source_of}
use Rattle.netlist_analysis.proofs.analysed.sources.Given as goal

abbrev pub invariant-numbers : goal.invariant-numbers
invariant-numbers l = l.events.items ++ map (source_of l.rules) (drop l.number-index l.cycle) ≡ map (source_of l.rules) l.cycle
