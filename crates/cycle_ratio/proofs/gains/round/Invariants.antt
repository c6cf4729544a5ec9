use Rattle.cycle_ratio.proofs.Trees.{IsPartRound}
use Rattle.cycle_ratio.proofs.gains.round.Given as goal

abbrev pub invariant-rules : goal.invariant-rules
invariant-rules l = IsPartRound l.top l.bottom l.system.events l.system.rules l.number l.initial.numbers l.numbers l.parents l.rose
