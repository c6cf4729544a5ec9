-- Written words, lines and numbers are read back.
use Rattle.std.specs.Prelude.{◌≡◌, ◌≢◌, ◌≤◌, ◌<◌, ◌-◌, ◌^◌, ℕ, List, [], ◌∷◌, ◌++◌, length, false, slice_index, Some, decimal}
use Rattle.std.specs.List.{All, list_any, join_with_byte}
use Rattle.std.specs.Str.Lines.{lines}
use Rattle.cyc_text.specs.Number.{number_of}
use Rattle.cyc_text.specs.Words.{is_newline, ends_word, words_of}

-- a word: it has a byte, and neither a blank nor a '#'
pub record IsWord (word : List ℕ) : Type 0 where
  pub some : 1 ≤ length word
  pub plain : list_any ends_word word ≡ false

-- a line as it is written: no line feed in it, and no carriage return at its end
pub record IsLine (line : List ℕ) : Type 0 where
  pub whole : list_any is_newline line ≡ false
  pub no_return : slice_index line (length line - 1) ≢ 13

-- each line with a line feed behind it
abbrev pub written_lines : List (List ℕ) → List ℕ
written_lines [] = []
written_lines (line ∷ more) = line ++ 10 ∷ written_lines more

-- what a line is cut into are words
abbrev pub WordsArePlain : Type 0
WordsArePlain = (line : List ℕ) → All IsWord (words_of line)

-- words with one space between each two are read back
abbrev pub WordsReadBack : Type 0
WordsReadBack = (words : List (List ℕ)) → All IsWord words → words_of (join_with_byte 32 words) ≡ words

-- lines with a line feed behind each are read back
abbrev pub LinesReadBack : Type 0
LinesReadBack = (written : List (List ℕ)) → All IsLine written → lines (written_lines written) ≡ written

-- a number of at most 19 digits in decimal is a word
abbrev pub NumbersAreWords : Type 0
NumbersAreWords = (n : ℕ) → n < 10 ^ 19 → IsWord (decimal n)

-- a number of at most 19 digits in decimal is read back
abbrev pub NumbersReadBack : Type 0
NumbersReadBack = (n : ℕ) → n < 10 ^ 19 → number_of (decimal n) ≡ Some n
