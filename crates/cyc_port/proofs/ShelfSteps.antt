-- What a read of a memory shelf answers and leaves, and what that says of its files and counts.
use Rattle.std.proofs.Common.{◌≡◌, ℕ, ◌<◌, ◌≤◌, Bool, true, false, List, [], ◌∷◌, length, map, refl, ap, sym, ◌∙◌, arith, inl, inr, Some, None, Ok, Err}
use Rattle.std.proofs.lemmas.Bool.{cases_Bool, cases_lt, lt-ltb, le-ltb}
use Rattle.std.specs.declared.option.Option.{Option}
use Rattle.std.specs.declared.result.Result.{Result}
use Rattle.std.specs.Prelude.{◌==◌, is_some, IsErrAnd, IsSomeAnd, IfOk}
use Rattle.std.specs.Option.{option_map}
use Rattle.std.specs.List.{list_any}
use Rattle.std.specs.Ordering.{nat_cmp}
use Rattle.std.specs.Cmp.Lexicographic.{slice_cmp, texts_ties, nat_list_cmp_total}
use Rattle.std.specs.FinMap as finite
use Rattle.cyc_port.specs.Files.{Files, IsFile, IsLongFile, file_limit}
use Rattle.cyc_port.specs.Counts.{raised, Rose}
use Rattle.cyc_port.specs.Rows.{has_name, files_of, count_of, file_of, change_first, with_fault, with_long}
use Rattle.cyc_port.specs.MemoryShelf.{ShelfState, answer_from, answer_of, Answers, shelf_after}
use Rattle.cyc_port.specs.declared.memory.NamedFile.{NamedFile}
use Rattle.cyc_port.proofs.CountLemmas.{raised-grows, raised-rose}
use Rattle.cyc_port.specs.declared.shelf.ShelfFault.{ShelfFault}
use Rattle.cyc_port.specs.declared.shelf.ShelfFault.TheVariants.{Failed, TooLong, Memory}

-- what a call answers whose number is not listed
pub answer-none : (s : ShelfState) (name : List ℕ) → list_any (λ n. n == s.calls) s.fail ≡ false → file_of s.files name ≡ None → answer_of s name ≡ Err Failed
answer-none s name unlisted absent = rw (unlisted, absent) refl

pub answer-long : (s : ShelfState) (name : List ℕ) (file : NamedFile) → list_any (λ n. n == s.calls) s.fail ≡ false → file_of s.files name ≡ Some file → file_limit < length file.bytes → answer_of s name ≡ Err TooLong
answer-long s name file unlisted found long = rw (unlisted, found, lt-ltb file_limit (length file.bytes) long) refl

pub answer-ok : (s : ShelfState) (name : List ℕ) (file : NamedFile) → list_any (λ n. n == s.calls) s.fail ≡ false → file_of s.files name ≡ Some file → length file.bytes ≤ file_limit → answer_of s name ≡ Ok file.bytes
answer-ok s name file unlisted found short = rw (unlisted, found, le-ltb file_limit (length file.bytes) short) refl

pub is_memory : (r : Result (List ℕ) ShelfFault) → IsErrAnd r (λ e. e ≡ Memory) → r ≡ Err Memory
is_memory (Ok b) is = absurd is
is_memory (Err e) is = ap (λ (f : ShelfFault). Err f) is

pub unlisted_from : (listed : Bool) (calls : ℕ) (all fail : List ℕ) → listed ≡ list_any (λ n. n == calls) all → all ≡ fail → listed ≡ false → list_any (λ n. n == calls) fail ≡ false
unlisted_from listed calls all fail is same other = rw (← same) (sym is ∙ other)

pub answers-err : (s : ShelfState) (name : List ℕ) (fault : ShelfFault) → answer_of s name ≡ Err fault → Answers (answer_of s name) (Err fault)
answers-err s name fault is = rw is refl

pub answers-ok : (s : ShelfState) (name bytes text : List ℕ) → answer_of s name ≡ Ok bytes → text ≡ bytes → Answers (answer_of s name) (Ok text)
answers-ok s name bytes text is same = rw is (inl (ap (λ (b : List ℕ). Ok b) same))

pub answers-memory : (s : ShelfState) (name bytes : List ℕ) (r : Result (List ℕ) ShelfFault) → answer_of s name ≡ Ok bytes → IsErrAnd r (λ e. e ≡ Memory) → Answers (answer_of s name) r
answers-memory s name bytes r is memory = rw is (inr (is_memory r memory))

-- the files stay
change-files : (change : NamedFile → NamedFile) → ((f : NamedFile) → (change f).name ≡ f.name) → ((f : NamedFile) → (change f).bytes ≡ f.bytes) → (name : List ℕ) (fs : List NamedFile) → files_of (change_first change fs name) ≡ files_of fs
change-files change names bytes name [] = refl
change-files change names bytes name (f ∷ fs) =
    elim (cases_Bool (has_name name f)) [
      | inl here ↦ rw (here, names f, bytes f) refl
      | inr apart ↦ rw apart (ap (λ (m : Files). finite.insert m f.name f.bytes) (change-files change names bytes name fs))
    ]

pub files_stay : (r : Result (List ℕ) ShelfFault) (s : ShelfState) (name : List ℕ) → files_of (shelf_after r s name).files ≡ files_of s.files
files_stay (Ok b) s name = refl
files_stay (Err Failed) s name = change-files with_fault (λ f. refl) (λ f. refl) name s.files
files_stay (Err TooLong) s name = change-files with_long (λ f. refl) (λ f. refl) name s.files
files_stay (Err Memory) s name = refl

-- no count falls
same-counts : (count : NamedFile → ℕ) (other more : ℕ) → other ≤ more → (fs : List NamedFile) (q : List ℕ) → count_of count other fs q ≤ count_of count more fs q
same-counts count other more le [] q = le
same-counts count other more le (f ∷ fs) q =
    elim (cases_Bool (has_name q f)) [
      | inl here ↦ rw here (omega arith)
      | inr apart ↦ rw apart (same-counts count other more le fs q)
    ]

change-counts : (count : NamedFile → ℕ) (other more : ℕ) (change : NamedFile → NamedFile) → ((q : List ℕ) (f : NamedFile) → has_name q (change f) ≡ has_name q f) → ((f : NamedFile) → count f ≤ count (change f)) → other ≤ more
    → (name : List ℕ) (fs : List NamedFile) (q : List ℕ) → count_of count other fs q ≤ count_of count more (change_first change fs name) q
change-counts count other more change names grows le name [] q = le
change-counts count other more change names grows le name (f ∷ fs) q =
    elim (cases_Bool (has_name name f)) [
      | inl here ↦
          rw (here, names q f)
          (elim (cases_Bool (has_name q f)) [
            | inl same ↦ rw same (grows f)
            | inr other_name ↦ rw other_name (same-counts count other more le fs q)
          ])
      | inr apart ↦
          rw apart
          (elim (cases_Bool (has_name q f)) [
            | inl same ↦ rw same (omega arith)
            | inr other_name ↦ rw other_name (change-counts count other more change names grows le name fs q)
          ])
    ]

pub faults_stay : (r : Result (List ℕ) ShelfFault) (s : ShelfState) (name q : List ℕ) → count_of (λ f. f.faults) s.other s.files q ≤ count_of (λ f. f.faults) (shelf_after r s name).other (shelf_after r s name).files q
faults_stay (Ok b) s name q = omega arith
faults_stay (Err Memory) s name q = omega arith
faults_stay (Err TooLong) s name q = change-counts (λ f. f.faults) s.other s.other with_long (λ q f. refl) (λ f. omega arith) (omega arith) name s.files q
faults_stay (Err Failed) s name q =
    elim (cases_Bool (is_some (file_of s.files name))) [
      | inl found ↦ rw found (change-counts (λ f. f.faults) s.other s.other with_fault (λ q f. refl) (λ f. raised-grows f.faults) (omega arith) name s.files q)
      | inr absent ↦ rw absent (change-counts (λ f. f.faults) s.other (raised s.other) with_fault (λ q f. refl) (λ f. raised-grows f.faults) (raised-grows s.other) name s.files q)
    ]

pub long_stay : (r : Result (List ℕ) ShelfFault) (s : ShelfState) (name q : List ℕ) → count_of (λ f. f.long) 0 s.files q ≤ count_of (λ f. f.long) 0 (shelf_after r s name).files q
long_stay (Ok b) s name q = omega arith
long_stay (Err Memory) s name q = omega arith
long_stay (Err TooLong) s name q = change-counts (λ f. f.long) 0 0 with_long (λ q f. refl) (λ f. raised-grows f.long) (omega arith) name s.files q
long_stay (Err Failed) s name q = change-counts (λ f. f.long) 0 0 with_fault (λ q f. refl) (λ f. omega arith) (omega arith) name s.files q

-- a failure raises the count of the name
change-rose : (count : NamedFile → ℕ) (other more : ℕ) (change : NamedFile → NamedFile) → ((q : List ℕ) (f : NamedFile) → has_name q (change f) ≡ has_name q f) → ((f : NamedFile) → Rose (count f) (count (change f)))
    → (name : List ℕ) (fs : List NamedFile) → is_some (file_of fs name) ≡ true → Rose (count_of count other fs name) (count_of count more (change_first change fs name) name)
change-rose count other more change names rises name [] found = absurd (cc)
change-rose count other more change names rises name (f ∷ fs) found =
    elim (cases_Bool (has_name name f)) [
      | inl here ↦ rw (here, names name f, here) (rises f)
      | inr apart ↦ rw (apart, apart) (change-rose count other more change names rises name fs (rw apart at found))
    ]

other_count : (count : NamedFile → ℕ) (other : ℕ) (change : NamedFile → NamedFile) (name : List ℕ) (fs : List NamedFile) → is_some (file_of fs name) ≡ false → (count_of count other (change_first change fs name) name ≡ other)
other_count count other change name [] absent = refl
other_count count other change name (f ∷ fs) absent =
    elim (cases_Bool (has_name name f)) [
      | inl here ↦ absurd (cc (rw here at absent))
      | inr apart ↦ rw (apart, apart) (other_count count other change name fs (rw apart at absent))
    ]

same_other : (count : NamedFile → ℕ) (other : ℕ) (name : List ℕ) (fs : List NamedFile) → is_some (file_of fs name) ≡ false → count_of count other fs name ≡ other
same_other count other name [] absent = refl
same_other count other name (f ∷ fs) absent =
    elim (cases_Bool (has_name name f)) [
      | inl here ↦ absurd (cc (rw here at absent))
      | inr apart ↦ rw apart (same_other count other name fs (rw apart at absent))
    ]

pub failed_rose : (r : Result (List ℕ) ShelfFault) (s : ShelfState) (name : List ℕ) → r ≡ Err Failed → Rose (count_of (λ f. f.faults) s.other s.files name) (count_of (λ f. f.faults) (shelf_after r s name).other (shelf_after r s name).files name)
failed_rose r s name is =
    rw is
    (elim (cases_Bool (is_some (file_of s.files name))) [
      | inl found ↦ rw found (change-rose (λ f. f.faults) s.other s.other with_fault (λ q f. refl) (λ f. raised-rose f.faults) name s.files found)
      | inr absent ↦ rw (absent, other_count (λ f. f.faults) (raised s.other) with_fault name s.files absent, same_other (λ f. f.faults) s.other name s.files absent) (raised-rose s.other)
    ])

-- a refusal of a long file: its name's count rose, and the file is long
found_long : (found : Option NamedFile) → answer_from found ≡ Err TooLong → (is_some found ≡ true) × IsSomeAnd (option_map (λ f. f.bytes) found) (λ bytes. file_limit < length bytes)
found_long None is = absurd (cc)
found_long (Some file) is =
    elim (cases_lt file_limit (length file.bytes)) [
      | inl long ↦ (refl, long)
      | inr short ↦ absurd (cc (rw (le-ltb file_limit (length file.bytes) short) at is))
    ]

found_ok : (found : Option NamedFile) (bytes : List ℕ) → answer_from found ≡ Ok bytes → (length bytes ≤ file_limit) × (option_map (λ f. f.bytes) found ≡ Some bytes)
found_ok None bytes is = absurd (cc)
found_ok (Some file) bytes is =
    elim (cases_lt file_limit (length file.bytes)) [
      | inl long ↦ absurd (cc (rw (lt-ltb file_limit (length file.bytes) long) at is))
      | inr short ↦ let same : file.bytes ≡ bytes = cc (rw (le-ltb file_limit (length file.bytes) short) at is) in (rw (← same) short, ap (λ (b : List ℕ). Some b) same)
    ]

find-file : (name : List ℕ) (fs : List NamedFile) → finite.find (slice_cmp nat_cmp) name (map (λ (f : NamedFile). (f.name, f.bytes)) fs) ≡ option_map (λ f. f.bytes) (file_of fs name)
find-file name [] = refl
find-file name (f ∷ fs) =
    elim (cases_Bool (has_name name f)) [
      | inl here ↦ rw (sym (texts_ties name f.name) ∙ here, here) refl
      | inr apart ↦ rw (sym (texts_ties name f.name) ∙ apart, apart) (find-file name fs)
    ]

get-file : (name : List ℕ) (fs : List NamedFile) → finite.get (files_of fs) name ≡ option_map (λ f. f.bytes) (file_of fs name)
get-file name fs = finite.get-from_entries nat_list_cmp_total (map (λ (f : NamedFile). (f.name, f.bytes)) fs) name ∙ find-file name fs

-- what the result says of the answer
err_answer : (a r : Result (List ℕ) ShelfFault) (fault : ShelfFault) → Answers a r → r ≡ Err fault → (fault ≡ Memory → ⊥) → a ≡ Err fault
err_answer (Ok bytes) r fault answers is other = elim answers [ inl ok ↦ absurd (cc) | inr memory ↦ absurd (other (cc)) ]
err_answer (Err e) r fault answers is other = sym answers ∙ is

ok_answer : (a : Result (List ℕ) ShelfFault) (bytes : List ℕ) → Answers a (Ok bytes) → a ≡ Ok bytes
ok_answer (Ok b) bytes answers = elim answers [ inl ok ↦ sym ok | inr memory ↦ absurd (cc) ]
ok_answer (Err e) bytes answers = absurd (cc)

long_from : (s : ShelfState) (name : List ℕ) → answer_of s name ≡ Err TooLong → answer_from (file_of s.files name) ≡ Err TooLong
long_from s name is =
    elim (cases_Bool (list_any (λ n. n == s.calls) s.fail)) [
      | inl listed ↦ absurd (cc (rw listed at is))
      | inr other ↦ rw other at is
    ]

ok_from : (s : ShelfState) (name bytes : List ℕ) → answer_of s name ≡ Ok bytes → answer_from (file_of s.files name) ≡ Ok bytes
ok_from s name bytes is =
    elim (cases_Bool (list_any (λ n. n == s.calls) s.fail)) [
      | inl listed ↦ absurd (cc (rw listed at is))
      | inr other ↦ rw other at is
    ]

pub long_rose : (r : Result (List ℕ) ShelfFault) (s : ShelfState) (name : List ℕ) → Answers (answer_of s name) r → r ≡ Err TooLong → Rose (count_of (λ f. f.long) 0 s.files name) (count_of (λ f. f.long) 0 (shelf_after r s name).files name)
long_rose r s name answers is =
    let found = found_long (file_of s.files name) (long_from s name (err_answer (answer_of s name) r TooLong answers is (λ e. cc))) in
    rw is (change-rose (λ f. f.long) 0 0 with_long (λ q f. refl) (λ f. raised-rose f.long) name s.files found.0)

pub long_file : (r : Result (List ℕ) ShelfFault) (s : ShelfState) (name : List ℕ) → Answers (answer_of s name) r → r ≡ Err TooLong → IsLongFile (Some (files_of s.files)) name
long_file r s name answers is =
    let found = found_long (file_of s.files name) (long_from s name (err_answer (answer_of s name) r TooLong answers is (λ e. cc))) in
    rw (get-file name s.files) found.1

pub whole_file : (r : Result (List ℕ) ShelfFault) (s : ShelfState) (name : List ℕ) → Answers (answer_of s name) r → IfOk r (IsFile (Some (files_of s.files)) name)
whole_file (Err e) s name answers = tt
whole_file (Ok bytes) s name answers =
    let found = found_ok (file_of s.files name) bytes (ok_from s name bytes (ok_answer (answer_of s name) bytes answers)) in
    record { short = found.0; same = get-file name s.files ∙ found.1 }
