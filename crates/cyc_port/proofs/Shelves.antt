-- The first file of a name in a list, and what a read leaves.
use Rattle.std.proofs.Common.{◌≡◌, ℕ, ◌<◌, ◌≤◌, true, false, List, [], ◌∷◌, length, get_or, set, refl, ap, sym, arith, zero, suc, inl, inr, Some, None}
use Rattle.std.proofs.lemmas.Bool.{cases_Bool, cases_lt, lt-ltb}
use Rattle.std.proofs.lemmas.List.Quantifiers.{position-Some}
use Rattle.std.specs.List.{position, position_or_len}
use Rattle.cyc_port.specs.Rows.{has_name, file_of, change_first}
use Rattle.cyc_port.specs.declared.memory.NamedFile.{NamedFile}

-- the place of the first file of a name
abbrev pub FirstAt : List ℕ → NamedFile → List NamedFile → ℕ → Type 0
FirstAt name file [] i = ⊥
FirstAt name file (f ∷ fs) zero = (has_name name f ≡ true) × (file ≡ f)
FirstAt name file (f ∷ fs) (suc i) = (has_name name f ≡ false) × FirstAt name file fs i

first_from : (name : List ℕ) (file : NamedFile) (fs : List NamedFile) (i : ℕ) → i < length fs → has_name name (get_or fs i file) ≡ true → ((k : ℕ) → k < i → has_name name (get_or fs k file) ≡ false) → file ≡ get_or fs i file → FirstAt name file fs i
first_from name file [] i below here before is = absurd (omega arith)
first_from name file (f ∷ fs) zero below here before is = (here, is)
first_from name file (f ∷ fs) (suc i) below here before is = (before zero (omega arith), first_from name file fs i (omega arith) here (λ k h. before (suc k) (omega arith)) is)

pub first_at : (name : List ℕ) (file : NamedFile) (fs : List NamedFile) (i : ℕ) → Some i ≡ position (has_name name) fs → file ≡ get_or fs i file → FirstAt name file fs i
first_at name file fs i found is =
    let at = position-Some (has_name name) fs i file (sym found) in
    first_from name file fs i at.0 at.1 at.2 is

file_of-first : (name : List ℕ) (file : NamedFile) (fs : List NamedFile) (i : ℕ) → FirstAt name file fs i → file_of fs name ≡ Some file
file_of-first name file [] i first = absurd first
file_of-first name file (f ∷ fs) zero first = rw first.0 (ap (λ (g : NamedFile). Some g) (sym first.1))
file_of-first name file (f ∷ fs) (suc i) first = rw first.0 (file_of-first name file fs i first.1)

pub file_of-found : (name : List ℕ) (file : NamedFile) (fs : List NamedFile) (i : ℕ) → Some i ≡ position (has_name name) fs → file ≡ get_or fs i file → file_of fs name ≡ Some file
file_of-found name file fs i found is = file_of-first name file fs i (first_at name file fs i found is)

file_of-past : (name : List ℕ) (fs : List NamedFile) → length fs ≤ position_or_len (has_name name) fs → file_of fs name ≡ None
file_of-past name [] past = refl
file_of-past name (f ∷ fs) past =
    elim (cases_Bool (has_name name f)) [
      | inl here ↦ absurd (omega (arith, rw here at past))
      | inr apart ↦ rw apart (file_of-past name fs (omega (arith, rw apart at past)))
    ]

pub file_of-none : (name : List ℕ) (fs : List NamedFile) → None ≡ position (has_name name) fs → file_of fs name ≡ None
file_of-none name fs absent =
    let n = position_or_len (has_name name) fs in
    elim (cases_lt n (length fs)) [
      | inl below ↦ let found : position (has_name name) fs ≡ Some n = rw (lt-ltb n (length fs) below) refl in absurd (cc (found, absent))
      | inr past ↦ file_of-past name fs past
    ]

-- a change at that place is the change of the first file
change_first-first : (change : NamedFile → NamedFile) (name : List ℕ) (file : NamedFile) (fs : List NamedFile) (i : ℕ) → FirstAt name file fs i → set fs i (change file) ≡ change_first change fs name
change_first-first change name file [] i first = absurd first
change_first-first change name file (f ∷ fs) zero first = rw first.0 (ap (λ (g : NamedFile). change g ∷ fs) first.1)
change_first-first change name file (f ∷ fs) (suc i) first = rw first.0 (ap (λ (gs : List NamedFile). f ∷ gs) (change_first-first change name file fs i first.1))

pub change_first-found : (change : NamedFile → NamedFile) (name : List ℕ) (file : NamedFile) (fs : List NamedFile) (i : ℕ) → Some i ≡ position (has_name name) fs → file ≡ get_or fs i file → set fs i (change file) ≡ change_first change fs name
change_first-found change name file fs i found is = change_first-first change name file fs i (first_at name file fs i found is)

pub change_first-none : (change : NamedFile → NamedFile) (name : List ℕ) (fs : List NamedFile) → file_of fs name ≡ None → fs ≡ change_first change fs name
change_first-none change name [] none = refl
change_first-none change name (f ∷ fs) none =
    elim (cases_Bool (has_name name f)) [
      | inl here ↦ absurd (cc (rw here at none))
      | inr apart ↦ rw apart (ap (λ (gs : List NamedFile). f ∷ gs) (change_first-none change name fs (rw apart at none)))
    ]

-- the same, where the code looks into a copy of the list
pub absent_file : (name : List ℕ) (seen fs : List NamedFile) → seen ≡ fs → None ≡ position (has_name name) seen → file_of fs name ≡ None
absent_file name seen fs same absent = file_of-none name fs (rw same at absent)

pub found_file : (name : List ℕ) (file : NamedFile) (seen fs : List NamedFile) (i : ℕ) → seen ≡ fs → Some i ≡ position (has_name name) seen → file ≡ get_or fs i file → file_of fs name ≡ Some file
found_file name file seen fs i same found is = file_of-found name file fs i (rw same at found) is
