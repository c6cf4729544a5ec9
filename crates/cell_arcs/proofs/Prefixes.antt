-- What is left of a list that is read one by one, behind what was read.
use Rattle.std.proofs.Common.{◌≡◌, List, [], ◌∷◌, ◌++◌, Option, Some, None, Result, Ok, Err, refl, ap, sym, append_assoc}
use Rattle.std.proofs.lemmas.List.{append-nil}
use Rattle.cell_arcs.specs.Steps.{◌>>=◌, ◌>>?◌}
use Rattle.cell_arcs.specs.declared.faults.LibraryFault.{LibraryFault}

-- the list with the elements done before it, unless it was refused
abbrev pub behind : {A : Type 0} → List A → Result (List A) LibraryFault → Result (List A) LibraryFault
behind done r = r >>= (λ xs. Ok (done ++ xs))

-- the list with the elements done before it, if there is one
abbrev pub after : {A : Type 0} → List A → Option (List A) → Option (List A)
after done o = o >>? (λ xs. Some (done ++ xs))

pub behind_nothing : {A : Type 0} (r : Result (List A) LibraryFault) → behind [] r ≡ r
behind_nothing (Ok xs) = refl
behind_nothing (Err e) = refl

pub after_nothing : {A : Type 0} (o : Option (List A)) → after [] o ≡ o
after_nothing (Some xs) = refl
after_nothing None = refl

-- one element more is done
pub behind_one : {A : Type 0} (done : List A) (x : A) (r : Result (List A) LibraryFault) → behind done (r >>= (λ xs. Ok (x ∷ xs))) ≡ behind (done ++ x ∷ []) r
behind_one done x (Ok xs) = ap Ok (sym (append_assoc done (x ∷ []) xs))
behind_one done x (Err e) = refl

pub after_one : {A : Type 0} (done : List A) (x : A) (o : Option (List A)) → after done (o >>? (λ xs. Some (x ∷ xs))) ≡ after (done ++ x ∷ []) o
after_one done x (Some xs) = ap Some (sym (append_assoc done (x ∷ []) xs))
after_one done x None = refl

-- nothing is left
pub behind_all : {A : Type 0} (done : List A) → behind done (Ok []) ≡ Ok done
behind_all done = ap Ok (append-nil done)

pub after_all : {A : Type 0} (done : List A) → after done (Some []) ≡ Some done
after_all done = ap Some (append-nil done)
