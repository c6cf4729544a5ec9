-- The relaxation rule, which holds between any two atomic steps on shared words.
-- Word 0 is 0, and word e + 1 stands for a number of event e.
use Rattle.std.specs.Prelude.{◌≡◌, ℕ, suc, ◌<◌, ◌≤ℤ◌, List, length, slice_index}
use mathlib.Core.Option.{some}
use lib.ListN.{get_elem?}
use Rattle.atomic_table.specs.Table.{State}
use Rattle.arrival_words.specs.declared.key.Key.{Key}
use Rattle.arrival_words.specs.declared.view.View.{View}
use Rattle.arrival_words.specs.About.{About, IsSound, IsReached, IsWeightOfWalk, about}
use Rattle.arrival_words.specs.Views.{value_of, values_of, known_at}

-- what a view knows of an event is the weight of a walk, and its word is not below it
pub record IsKnown (a : About) (words : List ℕ) (view : View) (event : ℕ) : Type 0 where
  pub about : view.about ≡ a
  pub reached : IsReached a event (known_at view event)
  pub below : known_at view event ≤ℤ value_of (slice_index words (suc event))

-- the rule
pub record Holds (a : About) (words : List ℕ) (views : List View) : Type 0 where
  pub sound : IsSound a
  pub first_word : slice_index words 0 ≡ 0
  pub wide : length words ≡ suc a.events
  pub reached : (event : ℕ) → event < a.events → IsWeightOfWalk a event (value_of (slice_index words (suc event)))
  pub views_known : (place : ℕ) (view : View) → get_elem? views place ≡ some view
      → (event : ℕ) → event < length view.known → IsKnown a words view event

-- what the words were opened with
abbrev pub about_key : Key → About
about_key key = about key.system.value key.root key.period

-- the first seat knows the first numbers
abbrev pub first_view : Key → View
first_view key = record { about = about_key key; known = values_of key.words.value.items }

-- the rule over the table of the words
abbrev pub keeps_rule : Key → State Unit View → Type 0
keeps_rule key s = Holds (about_key key) s.words s.views
