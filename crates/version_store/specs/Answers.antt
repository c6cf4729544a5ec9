-- What a hall's calls answer.
use Rattle.std.specs.Prelude.{◌≡◌, ℕ, ◌+◌, ◌==◌, nat_lt, if◌then◌else◌, Some, Result, Ok, Err}
use Rattle.std.specs.Arc.{arc_value}
use Rattle.version_store.specs.declared.state.HallState.{HallState}
use Rattle.version_store.specs.declared.hall.Pin.{Pin}
use Rattle.version_store.specs.declared.faults.HallFault.{HallFault}
use Rattle.version_store.specs.declared.faults.HallFault.TheVariants.{Stale, Full}
use Rattle.version_store.specs.Halls.{row_at, row_limit}

-- a pin of that number is a handle on the hall's row of that number
abbrev pub IsPin : {R : Type 0} → HallState R → ℕ → Pin R → Type 0
IsPin hall number pin = (pin.number ≡ number) × (row_at hall number ≡ Some (arc_value pin.row))

-- a publish on the head gets the next number, or Full where as many rows stand as may; one on a lower row is stale
abbrev pub answer_of : ℕ → ℕ → Result ℕ HallFault
answer_of head base =
    if base == head
    then (if nat_lt (head + 1) row_limit then Ok (head + 1) else Err Full)
    else Err (Stale head)
