use Rattle.arrival_words.specs.Known.{Belongs, NothingSinks}
use Rattle.relax_rounds.proofs.Reading.{AreRead}
use Rattle.relax_rounds.proofs.reads.read_all.Given as goal

abbrev pub invariant-events : goal.invariant-events
invariant-events l = Belongs l.words l.seat × NothingSinks l.initial.seat.known l.seat.known × AreRead l.words.about l.event l.times l.seat.known
