use Rattle.std.proofs.Common.{rules, ap, ◌∙◌}
use Rattle.turn_book.specs.Slots.{held_at}
use Rattle.turn_book.proofs.Seating.{ends, learns}
use Rattle.turn_book.proofs.book.Book.join.Goals as goal

pub join_seat-requires : goal.join_seat-requires
join_seat-requires g c = (
  c.requires.book,
  c.requires.other_book,
  c.args.other.holds ∙ ap held_at c.requires.idle,
  search rules,
  ends _ _ _ _ _ _ _ _ _ c.requires.opening c.requires.session c.requires.idle,
)

pub load-requires : goal.load-requires
load-requires g c = (search rules, search rules, learns _ _ _ _ _ _ _ _)
