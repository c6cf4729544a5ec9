-- The slot of the table that a seat holds, and the entry that it places.
use Rattle.std.specs.Prelude.{ℕ, List, [], ◌∷◌, Option, Some, None}
use Rattle.turn_book.specs.declared.view.Stage.{Stage}
use Rattle.turn_book.specs.declared.view.Stage.TheVariants.{Idle, Waits, Out, Placed}

-- the slots that a seat holds between the steps of its calls: the one slot, emptied, while it has a turn
abbrev pub held_at : {V E : Type 0} → Stage E → List (ℕ × Option V)
held_at Idle = []
held_at (Waits ticket) = []
held_at (Out ticket list) = (0, None) ∷ []
held_at (Placed ticket list) = (0, None) ∷ []

-- the last item of a list
abbrev pub last_of : {A : Type 0} → List A → Option A
last_of [] = None
last_of (x ∷ []) = Some x
last_of (x ∷ y ∷ ys) = last_of (y ∷ ys)
