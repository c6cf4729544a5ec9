-- A shelf in memory: what it holds, what a read answers, and what the read leaves.
use Rattle.std.specs.Prelude.{◌≡◌, ◌==◌, ◌⊎◌, ℕ, List, Ok, Err, Some, None, is_some, if◌then◌else◌}
use Rattle.std.specs.declared.option.Option.{Option}
use Rattle.std.specs.declared.result.Result.{Result}
use Rattle.std.specs.List.{list_any}
use Rattle.cyc_port.specs.declared.memory.NamedFile.{NamedFile}
use Rattle.cyc_port.specs.declared.shelf.ShelfFault.{ShelfFault}
use Rattle.cyc_port.specs.declared.shelf.ShelfFault.TheVariants.{Failed, TooLong, Memory}
use Rattle.cyc_port.specs.Counts.{raised}
use Rattle.cyc_port.specs.Faults.{answer_of_bytes}
use Rattle.cyc_port.specs.Rows.{files_of, file_of, count_of, with_fault, with_long, change_first}
use Rattle.cyc_port.specs.Seen.{Seen}

-- the files with their counts, the numbers of the calls that fail, the faults of all names without a file, and the calls so far
pub record ShelfState : Type 0 where
  pub files : List NamedFile
  pub fail : List ℕ
  pub other : ℕ
  pub calls : ℕ

-- a shelf that nobody has read from
abbrev pub new_shelf : List NamedFile → List ℕ → ShelfState
new_shelf files fail = record { files = files; fail = fail; other = 0; calls = 0 }

-- its files and the counts of each name; names without a file share one count of faults
abbrev pub seen_of : ShelfState → Seen
seen_of shelf = record {
  files = Some (files_of shelf.files);
  faults = count_of (λ f. f.faults) shelf.other shelf.files;
  long_reads = count_of (λ f. f.long) 0 shelf.files;
}

-- a name's file answers its bytes, or that they are too many; without a file the read fails
abbrev pub answer_from : Option NamedFile → Result (List ℕ) ShelfFault
answer_from None = Err Failed
answer_from (Some file) = answer_of_bytes file.bytes

-- a read fails where the call's number is listed; else the first file of the name answers
abbrev pub answer_of : ShelfState → List ℕ → Result (List ℕ) ShelfFault
answer_of shelf name = if list_any (λ n. n == shelf.calls) shelf.fail then Err Failed else answer_from (file_of shelf.files name)

-- the result is that answer, but for want of memory where it has bytes
abbrev pub Answers : Result (List ℕ) ShelfFault → Result (List ℕ) ShelfFault → Type 0
Answers (Ok bytes) result = (result ≡ Ok bytes) ⊎ (result ≡ Err Memory)
Answers (Err fault) result = result ≡ Err fault

-- the shelf after a read with that result: one call more, and one more in the count that a refusal raises
abbrev pub shelf_after : Result (List ℕ) ShelfFault → ShelfState → List ℕ → ShelfState
shelf_after (Ok bytes) shelf name = record { files = shelf.files; fail = shelf.fail; other = shelf.other; calls = raised shelf.calls }
shelf_after (Err Memory) shelf name = record { files = shelf.files; fail = shelf.fail; other = shelf.other; calls = raised shelf.calls }
shelf_after (Err Failed) shelf name = record { files = change_first with_fault shelf.files name; fail = shelf.fail; other = if is_some (file_of shelf.files name) then shelf.other else raised shelf.other; calls = raised shelf.calls }
shelf_after (Err TooLong) shelf name = record { files = change_first with_long shelf.files name; fail = shelf.fail; other = shelf.other; calls = raised shelf.calls }
