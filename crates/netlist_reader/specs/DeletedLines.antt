-- What a deleted net or constant leaves of the canonical text.
use Rattle.std.specs.Prelude.{◌≡◌, ◌⊎◌, ℕ, List, ◌∷◌, ◌++◌}
use Rattle.netlist_reader.specs.Canonical.{net_line, const_line}

-- lines are others without the one line of this net or constant
pub record IsWithoutLine (name : List ℕ) (old new : List (List (List ℕ))) : Type 0 where
  pub before : List (List (List ℕ))
  pub line : List (List ℕ)
  pub after : List (List (List ℕ))
  pub parts : old ≡ before ++ line ∷ after
  pub named : (line ≡ net_line name) ⊎ (line ≡ const_line name)
  pub rest : new ≡ before ++ after
