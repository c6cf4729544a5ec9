use Rattle.arrival_words.specs.Seats.{about_words, IsSeatOf}
use Rattle.arrival_words.specs.Known.{Relaxes, NothingSinks}
use Rattle.arrival_words.proofs.word_table.WordTable.relax.Given as goal

abbrev pub invariant-loop-n : goal.invariant-loop-n
invariant-loop-n l = IsSeatOf l.self l.seat × Relaxes (about_words l.self) l.from l.n l.initial.seat.me.0.known l.seat.me.0.known × NothingSinks l.initial.seat.me.0.known l.seat.me.0.known
