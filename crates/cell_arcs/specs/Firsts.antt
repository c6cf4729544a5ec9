-- What the first faulty pin and the first repeated source are, in words of their own.
use Rattle.std.specs.Prelude.{◌≡◌, ℕ, ◌+◌, List, ◌∷◌, ◌++◌, length, map, true, false, All, Contains, MatchOption, MatchResult}
use Rattle.std.specs.List.{IsDistinct}
use Rattle.std.specs.Str.{bytes_eq}
use Rattle.cyc_text.specs.Name.{is_name}
use Rattle.cell_arcs.specs.Shape.{ArcShape}
use Rattle.cell_arcs.specs.Library.{bad_name, repeated_pin, arcs_of}
use Rattle.cell_arcs.specs.declared.faults.LibraryFault.TheVariants.{RepeatedArc}

-- the pin at the position n is no name, and all before it are names
pub record IsFirstBadName (pins : List (List ℕ)) (n : ℕ) : Type 0 where
  pub before : List (List ℕ)
  pub pin : List ℕ
  pub after : List (List ℕ)
  pub parts : pins ≡ before ++ pin ∷ after
  pub counted : n ≡ length before + 1
  pub names : All (λ p. is_name p ≡ true) before
  pub no_name : is_name pin ≡ false

-- the name at the position n equals an earlier one, and all before it differ
pub record IsFirstRepeat (names : List (List ℕ)) (n : ℕ) : Type 0 where
  pub before : List (List ℕ)
  pub name : List ℕ
  pub after : List (List ℕ)
  pub parts : names ≡ before ++ name ∷ after
  pub counted : n ≡ length before + 1
  pub differ : IsDistinct bytes_eq before
  pub repeated : Contains before name

-- the sources of arcs, by name
abbrev pub sources : List ArcShape → List (List ℕ)
sources arcs = map (λ a. a.from) arcs

-- either all pins are names, or the position is that of the first that is none
abbrev pub FindsFirstBadName : List (List ℕ) → Type 0
FindsFirstBadName pins = MatchOption (bad_name pins) (All (λ p. is_name p ≡ true) pins) (IsFirstBadName pins)

-- either all pins differ, or the position is that of the first that equals an earlier one
abbrev pub FindsFirstRepeat : List (List ℕ) → Type 0
FindsFirstRepeat pins = MatchOption (repeated_pin pins) (IsDistinct bytes_eq pins) (IsFirstRepeat pins)

-- accepted arcs have different sources; a repeated arc is the first whose source an earlier one has
abbrev pub FindsFirstRepeatedSource : ℕ → List (List ℕ) → List ArcShape → Type 0
FindsFirstRepeatedSource n inputs arcs =
    MatchResult (arcs_of n inputs arcs)
    (λ _. IsDistinct bytes_eq (sources arcs))
    (λ e. (cell k : ℕ) → e ≡ RepeatedArc cell k → (cell ≡ n) × IsFirstRepeat (sources arcs) k)
