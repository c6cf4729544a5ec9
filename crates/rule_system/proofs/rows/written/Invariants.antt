use Rattle.rule_system.specs.Rows.{places_from}
use Rattle.rule_system.proofs.Parts.{IsFilled}
use Rattle.rule_system.proofs.rows.written.Given as goal

abbrev pub invariant-events : goal.invariant-events
invariant-events l = IsFilled (places_from l.ends 0) l.event l.begins.items l.numbers.items
