-- What a reader of words may answer.
use Rattle.std.specs.Prelude.{◌≡◌, ◌≢◌, ℕ, List, ◌∷◌, Option, Some, None, Result, MatchResult}
use Rattle.netlist_reader.specs.declared.faults.LineFault.{LineFault}
use Rattle.netlist_reader.specs.declared.faults.LineFault.TheVariants.{Memory}

-- the value that a definition gives, or a refusal where it gives none; want of memory at any time
abbrev pub Reads : {A : Type 0} → Result A LineFault → Option A → Type 0
Reads answer value = MatchResult answer (λ x. value ≡ Some x) (λ e. e ≢ Memory → value ≡ None)

-- there is a word
pub record HasWord (words : List (List ℕ)) : Type 0 where
  pub first : List ℕ
  pub more : List (List ℕ)
  pub is : words ≡ first ∷ more
