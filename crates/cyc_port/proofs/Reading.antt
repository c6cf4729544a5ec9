-- What is read of known bytes, no further than one past the limit, and what it is told as.
use Rattle.std.proofs.Common.{◌≡◌, ℕ, ◌+◌, ◌<◌, ◌≤◌, List, [], ◌++◌, length, take, Some, None, Ok, Err, inl, inr, IfSome, arith, ◌∙◌, ap}
use Rattle.std.proofs.lemmas.Bool.{cases_Bool, ltb-true, ltb-false}
use Rattle.std.proofs.lemmas.List.{take_all, length-take}
use Rattle.std.specs.Prelude.{IfOk, IfErr, IsErrOf, nat_lt}
use Rattle.std.specs.declared.option.Option.{Option}
use Rattle.std.specs.declared.result.Result.{Result}
use Rattle.std.specs.declared.io.ErrorKind.{ErrorKind}
use Rattle.std.specs.declared.io.ErrorKind.TheVariants.{OutOfMemory}
use Rattle.std.specs.Option.{option_map}
use Rattle.cyc_port.specs.Faults.{fault_of, answer_of_bytes}
use Rattle.cyc_port.specs.Files.{file_limit}
use Rattle.cyc_port.specs.MemoryShelf.{Answers}
use Rattle.cyc_port.specs.declared.shelf.ShelfFault.{ShelfFault}
use Rattle.cyc_port.specs.declared.shelf.ShelfFault.TheVariants.{TooLong}

-- the bytes read into an empty list are the front of the known ones
front_from : (known : Option (List ℕ)) (limit : ℕ) (start items : List ℕ) → start ≡ [] → IfSome (option_map (λ rest. take limit rest) known) (λ front. items ≡ start ++ front) → IfSome known (λ rest. items ≡ take limit rest)
front_from None limit start items none is = tt
front_from (Some rest) limit start items none is = is ∙ ap (λ (ys : List ℕ). ys ++ take limit rest) none

pub front_of : {F E : Type 0} (remaining : F → Option (List ℕ)) (opened : Result F E) (reader : F) (limit most : ℕ) (start items : List ℕ) → opened ≡ Ok reader → limit ≡ most → start ≡ []
    → IfSome (option_map (λ rest. take limit rest) (remaining reader)) (λ front. items ≡ start ++ front)
    → IfOk opened (λ reader. IfSome (remaining reader) (λ rest. items ≡ take most rest))
front_of remaining opened reader limit most start items is same none bytes = rw (is, ← same) (front_from (remaining reader) limit start items none bytes)

-- an answer's text has at most as many bytes as the limit says, and they are all
whole_from : (known : Option (List ℕ)) (bytes : List ℕ) (result : Result (List ℕ) ShelfFault) → IfSome known (λ rest. bytes ≡ take (file_limit + 1) rest) → Answers (answer_of_bytes bytes) result → IfSome known (λ rest. IfOk result (λ text. text ≡ rest))
whole_from None bytes result front answers = tt
whole_from (Some rest) bytes (Err fault) front answers = tt
whole_from (Some rest) bytes (Ok text) front answers =
    elim (cases_Bool (nat_lt file_limit (length bytes))) [
      | inl over ↦ absurd (cc (rw over at answers))
      | inr within ↦
          let short : length bytes ≤ file_limit = ltb-false file_limit (length bytes) within in
          let size : length bytes ≡ length (take (file_limit + 1) rest) = ap (λ (xs : List ℕ). length xs) front in
          let all : bytes ≡ rest = front ∙ take_all (file_limit + 1) rest (omega (arith, short, size, length-take {A = ℕ} (file_limit + 1) rest)) in
          elim (rw within at answers) [
            | inl is ↦ cc (is, all)
            | inr is ↦ absurd (cc is)
          ]
    ]

-- too long is told only past the limit
long_from : (known : Option (List ℕ)) (bytes : List ℕ) (result : Result (List ℕ) ShelfFault) → IfSome known (λ rest. bytes ≡ take (file_limit + 1) rest) → Answers (answer_of_bytes bytes) result → IfSome known (λ rest. IsErrOf result TooLong → file_limit < length rest)
long_from None bytes result front answers = tt
long_from (Some rest) bytes result front answers =
    λ is.
    elim (cases_Bool (nat_lt file_limit (length bytes))) [
      | inl over ↦
          let past : file_limit < length bytes = ltb-true file_limit (length bytes) over in
          let size : length bytes ≡ length (take (file_limit + 1) rest) = ap (λ (xs : List ℕ). length xs) front in
          omega (arith, past, size, length-take {A = ℕ} (file_limit + 1) rest)
      | inr within ↦
          elim (rw within at answers) [
            | inl ok ↦ absurd (cc (ok, is))
            | inr memory ↦ absurd (cc (memory, is))
          ]
    ]

-- no error is told as too long
never_long : (kind : ErrorKind) → fault_of kind ≡ TooLong → ⊥
never_long OutOfMemory is = absurd (cc is)
never_long _ is = absurd (cc is)

error_never_long : (kind : ErrorKind) (result : Result (List ℕ) ShelfFault) → result ≡ Err (fault_of kind) → IsErrOf result TooLong → ⊥
error_never_long kind result told is = never_long kind (cc (told, is))

-- a property of each known list
each_known : (known : Option (List ℕ)) (P : List ℕ → Type 0) → ((rest : List ℕ) → P rest) → IfSome known P
each_known None P all = tt
each_known (Some rest) P all = all rest

pub whole_of : {F E V : Type 0} (remaining : F → Option (List ℕ)) (items : V → List ℕ) (kind : E → ErrorKind) (opened : Result F E) (read : Result V E) (result : Result (List ℕ) ShelfFault)
    → IfOk opened (λ reader. IfOk read (λ bytes. IfSome (remaining reader) (λ rest. items bytes ≡ take (file_limit + 1) rest)))
    → IfOk read (λ bytes. Answers (answer_of_bytes (items bytes)) result)
    → IfErr read (λ error. result ≡ Err (fault_of (kind error)))
    → IfOk opened (λ reader. IfSome (remaining reader) (λ rest. IfOk result (λ text. text ≡ rest)))
whole_of remaining items kind (Err error) read result front answers told = tt
whole_of remaining items kind (Ok reader) (Ok bytes) result front answers told = whole_from (remaining reader) (items bytes) result front answers
whole_of remaining items kind (Ok reader) (Err error) result front answers told = rw told (each_known (remaining reader) _ (λ rest. tt))

pub long_of : {F E V : Type 0} (remaining : F → Option (List ℕ)) (items : V → List ℕ) (kind : E → ErrorKind) (opened : Result F E) (read : Result V E) (result : Result (List ℕ) ShelfFault)
    → IfOk opened (λ reader. IfOk read (λ bytes. IfSome (remaining reader) (λ rest. items bytes ≡ take (file_limit + 1) rest)))
    → IfOk read (λ bytes. Answers (answer_of_bytes (items bytes)) result)
    → IfErr read (λ error. result ≡ Err (fault_of (kind error)))
    → IfOk opened (λ reader. IfSome (remaining reader) (λ rest. IsErrOf result TooLong → file_limit < length rest))
long_of remaining items kind (Err error) read result front answers told = tt
long_of remaining items kind (Ok reader) (Ok bytes) result front answers told = long_from (remaining reader) (items bytes) result front answers
long_of remaining items kind (Ok reader) (Err error) result front answers told = each_known (remaining reader) _ (λ rest is. absurd (error_never_long (kind error) result told is))
