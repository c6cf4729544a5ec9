-- A ratio of two numbers.
use Rattle.std.specs.Prelude.{ℕ, ◌≤◌}
use Rattle.std.specs.Int.{IsGcd}

-- a top over a bottom
pub record Fraction : Type 0 where
  pub top : ℕ
  pub bottom : ℕ

-- no common divisor but 1, and a bottom of at least 1
pub record IsLowest (top bottom : ℕ) : Type 0 where
  pub positive : 1 ≤ bottom
  pub lowest : IsGcd top bottom 1

-- the greatest top of a period: what 32,768 delays of 1,000,000 come to
abbrev pub most_top : ℕ
most_top = 32768000000

-- the greatest bottom of a period: what 32,768 offsets of 15 come to
abbrev pub most_bottom : ℕ
most_bottom = 491520

-- a top and a bottom within the limits of a period
abbrev pub IsSmallRatio : ℕ → ℕ → Type 0
IsSmallRatio top bottom = (top ≤ most_top) × (bottom ≤ most_bottom)
