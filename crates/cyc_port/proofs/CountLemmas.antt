-- Counts that are raised.
use Rattle.std.proofs.Common.{◌≡◌, ℕ, ◌+◌, ◌<◌, ◌≤◌, min, arith, inl, inr}
use Rattle.std.proofs.lemmas.Bool.{cases_lt, lt-ltb, le-ltb}
use Rattle.cyc_port.specs.Counts.{raised, Rose}

-- what `saturating_add(1)` gives
pub raised-is : (count now : ℕ) → count < 18446744073709551616 → now ≡ min (count + 1) 18446744073709551615 → now ≡ raised count
raised-is count now fits is =
    elim (cases_lt count 18446744073709551615) [
      | inl below ↦ rw (lt-ltb count 18446744073709551615 below) (omega arith)
      | inr past ↦ rw (le-ltb count 18446744073709551615 past) (omega arith)
    ]

pub raised-grows : (count : ℕ) → count ≤ raised count
raised-grows count =
    elim (cases_lt count 18446744073709551615) [
      | inl below ↦ rw (lt-ltb count 18446744073709551615 below) (omega arith)
      | inr past ↦ rw (le-ltb count 18446744073709551615 past) (omega arith)
    ]

pub raised-rose : (count : ℕ) → Rose count (raised count)
raised-rose count =
    elim (cases_lt count 18446744073709551615) [
      | inl below ↦ rw (lt-ltb count 18446744073709551615 below) (omega arith)
      | inr past ↦ rw (le-ltb count 18446744073709551615 past) (omega arith)
    ]
