use Rattle.rule_system.specs.Weights.{AreAttained, Covers}
use Rattle.potentials.specs.Raised.{AreAbove}
use Rattle.potentials.proofs.rounds.settle.Given as goal

abbrev pub invariant-rounds : goal.invariant-rounds
invariant-rounds l = AreAttained l.top l.bottom l.system.events l.system.rules l.root l.times × AreAbove 17000000000000000 l.times × Covers l.top l.bottom l.system.rules l.root l.counter l.times
