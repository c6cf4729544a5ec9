-- How far a number lies from 0.
use Rattle.std.specs.Prelude.{ℕ, ℤ, pos, ◌+ℤ◌, ◌≤ℤ◌}

-- the number is between minus the bound and the bound
abbrev pub LiesWithin : ℕ → ℤ → Type 0
LiesWithin bound number = (pos 0 ≤ℤ (number +ℤ pos bound)) × (number ≤ℤ pos bound)

-- how far the number of an event may lie from 0, in picoseconds scaled by a period's bottom
abbrev pub time_limit : ℕ
time_limit = 17000000000000000
