-- How a value or a refusal goes from one step to the next.
use Rattle.std.specs.Prelude.{◌≡◌, ◌≢◌, Option, Some, None, option_and_then, Result, Ok, Err, MatchResult}
use Rattle.cell_arcs.specs.declared.faults.LibraryFault.{LibraryFault}
use Rattle.cell_arcs.specs.declared.faults.LibraryFault.TheVariants.{Memory}

infixl 10 ◌>>=◌
-- the value of the one, handed to the other, unless the one is refused
abbrev pub ◌>>=◌ : {A B E : Type 0} → Result A E → (A → Result B E) → Result B E
Ok x >>= f = f x
Err e >>= f = Err e

infixl 10 ◌>>?◌
-- the value of the one, handed to the other, unless there is none
abbrev pub ◌>>?◌ : {A B : Type 0} → Option A → (A → Option B) → Option B
o >>? f = option_and_then f o

-- the value, or this fault where there is none
abbrev pub or_fault : {A E : Type 0} → E → Option A → Result A E
or_fault e None = Err e
or_fault e (Some x) = Ok x

-- the first, or else the second
abbrev pub or_else : {A : Type 0} → Option A → Option A → Option A
or_else None o = o
or_else (Some x) o = Some x

-- the fault where there is one
abbrev pub unless_fault : {A E : Type 0} → Option E → Result A E → Result A E
unless_fault None r = r
unless_fault (Some e) r = Err e

-- the call answers what the definition gives, unless memory ran out
abbrev pub Answers : {A : Type 0} → Result A LibraryFault → Result A LibraryFault → Type 0
Answers answer d = MatchResult answer (λ x. d ≡ Ok x) (λ e. e ≢ Memory → d ≡ Err e)

-- the same, where the call answers a value that stands for the definition's
abbrev pub AnswersBy : {A B : Type 0} → (A → B) → Result A LibraryFault → Result B LibraryFault → Type 0
AnswersBy see answer d = MatchResult answer (λ x. d ≡ Ok (see x)) (λ e. e ≢ Memory → d ≡ Err e)
