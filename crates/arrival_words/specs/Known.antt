-- What calls say of the words and of what a seat knows.
use Rattle.std.specs.Prelude.{◌≡◌, ℕ, ◌<◌, ◌≤◌, ℤ, ◌+ℤ◌, ◌≤ℤ◌, List, length}
use Rattle.atomic_table.specs.Seated.{TableId}
use Rattle.rule_system.specs.Rules.{rule_at, source_of, target_of}
use Rattle.rule_system.specs.Weights.{rule_weight, time_of}
use Rattle.arrival_words.specs.About.{About}

-- words, as clauses see them: which they are, and what they are about
pub record Place : Type 0 where
  pub table : TableId
  pub about : About

-- a seat, as clauses see it: the words that it belongs to, and the number that it knows of each event
pub record Knowledge : Type 0 where
  pub place : Place
  pub known : List ℤ

-- the seat belongs to the words
pub record Belongs (words : Place) (seat : Knowledge) : Type 0 where
  pub place : seat.place ≡ words
  pub wide : length seat.known ≡ words.about.events

-- at the target of each of these rules at least what was known at its source and the rule's weight is known
pub record Relaxes (a : About) (from to : ℕ) (before after : List ℤ) : Type 0 where
  pub each : (n : ℕ) → from ≤ n → n < to
      → (time_of before (source_of a.rules n) +ℤ rule_weight a.top a.bottom (rule_at a.rules n)) ≤ℤ time_of after (target_of a.rules n)

-- at each event at least as much is known after as before
pub record NothingSinks (before after : List ℤ) : Type 0 where
  pub each : (event : ℕ) → time_of before event ≤ℤ time_of after event
