-- What each atomic step tells the seat that makes it.
use Rattle.std.specs.Prelude.{◌≡◌, ◌≢◌, ℕ, ◌<◌, List, [], ◌∷◌, length, Option, Some}
use Rattle.atomic_table.specs.Table.{Me, Step}
use Rattle.turn_book.specs.declared.view.View.{View}
use Rattle.turn_book.specs.declared.view.Stage.TheVariants.{Waits, Out}
use Rattle.turn_book.specs.declared.view.Role.TheVariants.{Opening}
use Rattle.turn_book.specs.Views.{StartsWith, own, staged, placing, served, Knows}

-- a seat of the table: what it knows, and the slots that it holds
abbrev pub Seated : Type 0 → Type 0 → Type 0 → Type 0
Seated V O E = Me (Option V) (View O E)

module _ {V O E : Type 0} where
  -- fetch_add on word 1: the seat's ticket is the number found
  abbrev pub drew : Step (Option V) → Seated V O E → ℕ → Seated V O E → Type 0
  drew step before found after = after ≡ (staged before.0 (Waits found), before.1)

  -- fetch_add on word 3: the entry is placed in the list, at the number found
  abbrev pub placed : Option E → Step (Option V) → Seated V O E → ℕ → Seated V O E → Type 0
  placed made step before found after =
      (ticket : ℕ) (list : List E) (entry : E) → before.0.stage ≡ Out ticket list → made ≡ Some entry
      → (found ≡ length list) × (after ≡ (placing before.0 ticket list entry, before.1))

  -- fetch_add on word 2: the turn is over, the value is at home and the next ticket is served
  abbrev pub ended_turn : Step (Option V) → Seated V O E → ℕ → Seated V O E → Type 0
  ended_turn step before found after = after ≡ (served before.0, [])

  -- load of word 0: nothing changes, and the opening seat is told what the rule says of it
  abbrev pub knew : (E → ℕ) → Step (Option V) → Seated V O E → ℕ → Seated V O E → Type 0
  knew session step before found after = (after ≡ before) × (before.0.role ≡ Opening → Knows session before.0)

  module _ (origin : V → O) (entries : V → List E) (session : E → ℕ) where
    -- what is known of the value and the list of a turn
    pub record Begins (v : View O E) (value : V) (list : List E) : Type 0 where
      pub origin_is : v.origin ≡ Some (origin value)
      pub list_is : entries value ≡ list
      pub room : length list < v.total
      pub more : StartsWith list v.seen
      pub mine : own session v.number list ≡ v.made

    -- load of word 2: where the number found is the seat's ticket, the value is out with the seat
    abbrev pub looked : Step (Option V) → Seated V O E → ℕ → Seated V O E → Type 0
    looked step before found after =
        (ticket : ℕ) → before.0.stage ≡ Waits ticket
        → (found ≢ ticket → after ≡ before)
        × (found ≡ ticket → (value : V) × (list : List E)
        × (after ≡ (staged before.0 (Out ticket list), (0, Some value) ∷ before.1)) × Begins before.0 value list)
