-- What a seat knows, and what a step on an event's word tells it.
use Rattle.std.specs.Prelude.{◌≡◌, ℕ, ◌+◌, max, ℤ, pos, ◌-ℤ◌, ◌≤ℤ◌, List, [], ◌∷◌, map, slice_set}
use Rattle.std.specs.Int.{int_max}
use Rattle.atomic_table.specs.Table.{Me, Step}
use Rattle.rule_system.specs.Weights.{time_of}
use Rattle.arrival_words.specs.About.{IsWeightOfWalk}
use Rattle.arrival_words.specs.declared.view.View.{View}

-- the number that an event's word stands for
abbrev pub value_of : ℕ → ℤ
value_of word = pos word -ℤ pos 4611686018427387904

-- the numbers of the words behind the first
abbrev pub values_of : List ℕ → List ℤ
values_of [] = []
values_of (first ∷ words) = map value_of words

-- what a view knows of an event
abbrev pub known_at : View → ℕ → ℤ
known_at view event = time_of view.known event

-- the view, with another number known at the event
abbrev pub learned : View → ℕ → ℤ → View
learned view event time = record view { known = slice_set view.known event time }

-- a step found the event's word, and the seat knows this number there afterwards
pub record Learns (before : View) (event found : ℕ) (time : ℤ) (after : View) : Type 0 where
  pub view : after ≡ learned before event time
  pub reached : IsWeightOfWalk before.about event (value_of found)
  pub above : known_at before event ≤ℤ value_of found

-- load of an event's word: the number found is known
abbrev pub loaded : Step Unit → Me Unit View → ℕ → Me Unit View → Type 0
loaded step before found after =
    (after.1 ≡ before.1)
    × ((event : ℕ) → step.word ≡ event + 1 → Learns before.0 event found (value_of found) after.0)

-- fetch_max of an event's word: the greater of the number found and the offer is known
abbrev pub raised : Step Unit → Me Unit View → ℕ → Me Unit View → Type 0
raised step before found after =
    (after.1 ≡ before.1)
    × ((event : ℕ) → step.word ≡ event + 1 → Learns before.0 event found (value_of (max found step.first)) after.0)

-- the greater number at each place
abbrev pub maxima : List ℤ → List ℤ → List ℤ
maxima [] ys = []
maxima (x ∷ xs) [] = x ∷ xs
maxima (x ∷ xs) (y ∷ ys) = int_max x y ∷ maxima xs ys

-- join_seat: the greater number is known of each event
abbrev pub joined : View → View → View
joined view other = record view { known = maxima view.known other.known }

-- what is left of a seat that was joined
abbrev pub spent_view : View
spent_view = record {
  about = record { events = 0; rules = []; root = 0; top = 0; bottom = 0 };
  known = [];
}
