-- The words behind a command's name.
use Rattle.std.specs.Prelude.{◌==◌, ◌&&◌, ℕ, Bool, false, not, List, [], ◌∷◌, Option, Some, None, codes, if◌then◌else◌, length, nat_le}
use Rattle.std.specs.List.{list_all}
use Rattle.std.specs.Str.{bytes_eq}
use Rattle.cyc_text.specs.Number.{number_of}

-- it has a first byte, which is no dash (45)
abbrev pub is_begun_well : List ℕ → Bool
is_begun_well [] = false
is_begun_well (first ∷ rest) = not (first == 45)

-- a word that names a file: not empty, not begun by a dash, with no control byte
abbrev pub is_file_word : List ℕ → Bool
is_file_word word = is_begun_well word && list_all (λ byte. nat_le 32 byte && not (byte == 127)) word

-- the number where it is one of a ring's stages
abbrev pub stages_within : Option ℕ → Option ℕ
stages_within None = None
stages_within (Some n) = if nat_le 3 n && nat_le n 4096 then Some n else None

-- the stages of a ring that a word says
abbrev pub stages_of : List ℕ → Option ℕ
stages_of word = stages_within (number_of word)

-- the number where it is one of workers
abbrev pub workers_within : Option ℕ → Option ℕ
workers_within None = None
workers_within (Some n) = if nat_le 1 n && nat_le n 64 then Some n else None

-- the number of workers that two words say: `--workers N`
abbrev pub workers_of : List ℕ → List ℕ → Option ℕ
workers_of flag count = if bytes_eq flag (codes "--workers") then workers_within (number_of count) else None

-- the number of workers that the words behind a command's own say: 1 where there are none
abbrev pub workers_behind : List (List ℕ) → Option ℕ
workers_behind [] = Some 1
workers_behind (flag ∷ count ∷ []) = workers_of flag count
workers_behind words = None

-- the first word is `serve`
abbrev pub is_serve : List (List ℕ) → Bool
is_serve [] = false
is_serve (name ∷ words) = bytes_eq name (codes "serve")

-- 1 to 32 words that name the files of scripts
abbrev pub are_scripts : List (List ℕ) → Bool
are_scripts words = nat_le 1 (length words) && nat_le (length words) 32 && list_all is_file_word words
