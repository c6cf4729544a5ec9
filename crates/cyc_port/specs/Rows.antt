-- What a list of files with counts tells.
use Rattle.std.specs.Prelude.{ℕ, Bool, List, [], ◌∷◌, map, Some, None, if◌then◌else◌}
use Rattle.std.specs.declared.option.Option.{Option}
use Rattle.std.specs.FinMap.{from_entries}
use Rattle.std.specs.Str.{bytes_eq}
use Rattle.cyc_port.specs.Counts.{raised}
use Rattle.cyc_port.specs.Files.{Files}
use Rattle.cyc_port.specs.declared.memory.NamedFile.{NamedFile}

-- whether this is the file's name
abbrev pub has_name : List ℕ → NamedFile → Bool
has_name name file = bytes_eq name file.name

-- the first file of a name counts
abbrev pub files_of : List NamedFile → Files
files_of files = from_entries (map (λ (file : NamedFile). (file.name, file.bytes)) files)

-- the first file of the name
abbrev pub file_of : List NamedFile → List ℕ → Option NamedFile
file_of [] name = None
file_of (file ∷ files) name = if has_name name file then Some file else file_of files name

-- a count of the first file of the name, or the one that all other names share
abbrev pub count_of : (NamedFile → ℕ) → ℕ → List NamedFile → List ℕ → ℕ
count_of count other [] name = other
count_of count other (file ∷ files) name = if has_name name file then count file else count_of count other files name

-- the file with one fault more
abbrev pub with_fault : NamedFile → NamedFile
with_fault file = record { name = file.name; bytes = file.bytes; faults = raised file.faults; long = file.long }

-- the file with one long read more
abbrev pub with_long : NamedFile → NamedFile
with_long file = record { name = file.name; bytes = file.bytes; faults = file.faults; long = raised file.long }

-- the list with the first file of the name changed
abbrev pub change_first : (NamedFile → NamedFile) → List NamedFile → List ℕ → List NamedFile
change_first change [] name = []
change_first change (file ∷ files) name = if has_name name file then change file ∷ files else file ∷ change_first change files name
