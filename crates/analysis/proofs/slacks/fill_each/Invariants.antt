use Rattle.analysis.specs.Forks.{AreSlacksOf}
use Rattle.analysis.proofs.slacks.fill_each.Given as goal

abbrev pub invariant-lists : goal.invariant-lists
invariant-lists l = AreSlacksOf l.period.top l.period.bottom l.system.rules l.forks l.root l.roots l.at l.slacks
