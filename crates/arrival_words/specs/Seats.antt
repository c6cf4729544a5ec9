-- What a seat on the words belongs to, by the fields of both.
use Rattle.std.specs.Prelude.{◌≡◌, [], length}
use Rattle.atomic_table.specs.declared.shared.Seat.{Seat}
use Rattle.arrival_words.specs.declared.view.View.{View}
use Rattle.arrival_words.specs.declared.word_table.WordTable.{WordTable}
use Rattle.arrival_words.specs.About.{About, about}

-- the system, the root and the period that the words were opened with
abbrev pub about_words : WordTable → About
about_words words = about words.system.now words.root words.period

-- the seat belongs to the words
pub record IsSeatOf (words : WordTable) (seat : Seat Unit View) : Type 0 where
  pub table : seat.table_id ≡ words.table.shared.table_id
  pub about : seat.me.0.about ≡ about_words words
  pub wide : length seat.me.0.known ≡ words.system.now.events
  pub bare : seat.me.1 ≡ []
