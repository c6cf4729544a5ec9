use Rattle.std.proofs.Common.{arith, ◌∙◌, sym, ap}
use Rattle.arrival_words.proofs.Moves.{joins, length-maxima}
use Rattle.arrival_words.proofs.Knowing.{joined_left, joined_right}
use Rattle.std.proofs.Common.{length}
use Rattle.arrival_words.proofs.word_table.WordTable.join.Goals as goal

pub join_seat-requires : goal.join_seat-requires
join_seat-requires c = (
  c.requires.seat.table,
  c.requires.other.table,
  c.requires.other.bare,
  omega (arith, c.args.self.now.wide),
  joins c.args.self.now.table.shared.key _ _ _ _ (c.requires.seat.wide ∙ sym c.requires.other.wide),
)

pub returns-clause-seat : goal.returns-clause-seat
returns-clause-seat c = let me = c.join_seat.ensures.2 in record {
  table = c.join_seat.ensures.0 ∙ c.requires.seat.table;
  about = ap (λ m. m.0.about) me ∙ c.requires.seat.about;
  wide = ap (λ m. length m.0.known) me ∙ length-maxima c.args.seat.now.me.0.known c.args.other.me.0.known ∙ c.requires.seat.wide;
  bare = ap (λ m. m.1) me ∙ c.requires.seat.bare;
}

pub returns-clause-kept : goal.returns-clause-kept
returns-clause-kept c = joined_left _ _ _ (ap (λ m. m.0.known) c.join_seat.ensures.2)

pub returns-clause-gained : goal.returns-clause-gained
returns-clause-gained c = joined_right _ _ _ (c.requires.seat.wide ∙ sym c.requires.other.wide) (ap (λ m. m.0.known) c.join_seat.ensures.2)
