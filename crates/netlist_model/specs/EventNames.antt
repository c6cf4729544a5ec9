-- The names of nets and of events.
use Rattle.std.specs.Prelude.{◌==◌, ◌/◌, ◌%◌, ℕ, if◌then◌else◌, List, [], ◌∷◌, ◌++◌, slice_get, unwrap_or}

-- the name at a place of a list of names
abbrev pub name_at : List (List ℕ) → ℕ → List ℕ
name_at names at = unwrap_or (slice_get names at) []

-- '+' (43) where the event is a rise, '-' (45) where it is a fall
abbrev pub edge_byte : ℕ → ℕ
edge_byte event = if event % 2 == 0 then 43 else 45

-- `NET+` or `NET-`
unfoldable pub event_name : List (List ℕ) → ℕ → List ℕ
event_name nets event = name_at nets (event / 2) ++ edge_byte event ∷ []
