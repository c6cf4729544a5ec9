-- What a deletion leaves out.
use Rattle.std.specs.Prelude.{◌≡◌, ℕ, true, List, ◌∷◌, ◌++◌}
use Rattle.std.specs.Str.{bytes_eq}

-- a list is another without one entry of this name
pub record IsWithout {A : Type 0} (name_of : A → List ℕ) (name : List ℕ) (old new : List A) : Type 0 where
  pub before : List A
  pub gone : A
  pub after : List A
  pub parts : old ≡ before ++ gone ∷ after
  pub named : bytes_eq name (name_of gone) ≡ true
  pub rest : new ≡ before ++ after
