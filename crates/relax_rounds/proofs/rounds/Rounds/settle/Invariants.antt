use Rattle.arrival_words.specs.Known.{Belongs}
use Rattle.relax_rounds.proofs.Rounding.{Done}
use Rattle.relax_rounds.proofs.rounds.Rounds.settle.Given as goal

abbrev pub invariant-rounds : goal.invariant-rounds
invariant-rounds g l = Belongs l.words l.seat × Done l.words.about l.initial.seat.known l.initial.steps l.counter l.seat.known l.times l.steps
