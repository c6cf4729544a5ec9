-- Lines of words as they are written: one space between two words, a line feed behind each line.
use Rattle.std.specs.Prelude.{ℕ, List, [], ◌∷◌, ◌++◌, map}
use Rattle.std.specs.List.{join_with_byte}
use Rattle.cyc_text.specs.ReadBack.{written_lines}

-- lines of words as a text
unfoldable pub lines_text : List (List (List ℕ)) → List ℕ
lines_text lines = written_lines (map (join_with_byte 32) lines)

-- as a pen writes it: the words that follow the first of a line, a space before each, and the line feed
abbrev pub ended : List (List ℕ) → List ℕ
ended [] = 10 ∷ []
ended (word ∷ words) = 32 ∷ (word ++ ended words)

-- a line with its line feed
abbrev pub line_text : List (List ℕ) → List ℕ
line_text [] = 10 ∷ []
line_text (word ∷ words) = word ++ ended words
