use Rattle.turn_book.specs.Slots.{last_of}
use Rattle.turn_book.proofs.book.Book.give_back.Given as goal

abbrev pub ghosts-place : goal.ghosts-place
ghosts-place g a = record { entry = last_of (g.V.Stands.entries a.value.now) }
