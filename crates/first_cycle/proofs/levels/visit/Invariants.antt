use Rattle.std.proofs.Common.{◌<◌, All}
use Rattle.first_cycle.specs.Levels.{AreFound}
use Rattle.first_cycle.specs.Ways.{rules_along}
use Rattle.first_cycle.proofs.levels.visit.Given as goal

abbrev pub invariant-rules : goal.invariant-rules
invariant-rules l = record {
  found : AreFound l.system.events (rules_along l.way l.system.rules) l.keep l.end l.levels;
  queue : All (λ queued. queued < l.system.events) l.queue.items;
}
