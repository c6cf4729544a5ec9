-- What a span of a text stands for.
use Rattle.std.specs.Prelude.{◌≡◌, ◌≢◌, ◌≤◌, ◌<◌, ◌-◌, ◌⊎◌, ℕ, List, [], ◌∷◌, length, drop, true, false, slice_index, slice_range}
use Rattle.std.specs.List.{list_all, list_any}
use Rattle.std.specs.Str.Lines.{lines}
use Rattle.cyc_text.specs.Words.{is_newline, is_blank, words_left, words_of}
use Rattle.cyc_text.specs.declared.spans.LineSpan.{LineSpan}
use Rattle.cyc_text.specs.declared.spans.WordSpan.{WordSpan}

-- behind the line stand a carriage return and a line feed, and nothing else
abbrev pub EndsWithReturn : List ℕ → LineSpan → Type 0
EndsWithReturn bytes line = slice_range bytes line.to line.next ≡ 13 ∷ 10 ∷ []

-- behind the line stands a line feed alone, and no carriage return directly before it
pub record EndsWithFeed (bytes : List ℕ) (line : LineSpan) : Type 0 where
  pub feed : slice_range bytes line.to line.next ≡ 10 ∷ []
  pub no_return : line.from < line.to → slice_index bytes (line.to - 1) ≢ 13

-- the line ends at the text's end, with nothing behind it
pub record EndsWithText (bytes : List ℕ) (line : LineSpan) : Type 0 where
  pub at_end : line.to ≡ length bytes
  pub no_more : line.next ≡ length bytes

-- how a line ends
abbrev pub LineEnds : List ℕ → LineSpan → Type 0
LineEnds bytes line = EndsWithReturn bytes line ⊎ (EndsWithFeed bytes line ⊎ EndsWithText bytes line)

-- the span is the first line of the text from `at` on, and the other lines start at its `next`
pub record IsFirstLine (bytes : List ℕ) (at : ℕ) (line : LineSpan) : Type 0 where
  pub starts : line.from ≡ at
  pub grows : line.from ≤ line.to
  pub ends : line.to ≤ line.next
  pub advances : at < line.next
  pub within : line.next ≤ length bytes
  -- no line feed stands within a line
  pub whole : list_any is_newline (slice_range bytes line.from line.to) ≡ false
  -- the next line starts right behind this line's end
  pub ended : LineEnds bytes line
  pub cut : lines (drop at bytes) ≡ slice_range bytes line.from line.to ∷ lines (drop line.next bytes)

-- the span is the first word of the line from `at` on
pub record IsFirstWord (bytes : List ℕ) (line : LineSpan) (at : ℕ) (word : WordSpan) : Type 0 where
  pub starts : at ≤ word.from
  -- nothing but blanks stands in front of it
  pub lead : list_all is_blank (slice_range bytes at word.from) ≡ true
  pub some : word.from < word.to
  pub within : word.to ≤ line.to
  pub cut : words_left bytes line at ≡ slice_range bytes word.from word.to ∷ words_left bytes line word.to
  -- so a reader may go on with the rest of the line as its line, and looks at no byte twice
  pub further : words_left bytes line word.to ≡ words_of (slice_range bytes word.to line.to)

-- at most one span is the first line of a text from a place on
abbrev pub FirstLinesAreUnique : Type 0
FirstLinesAreUnique = (bytes : List ℕ) (at : ℕ) (line other : LineSpan) → IsFirstLine bytes at line → IsFirstLine bytes at other → line ≡ other

-- at most one span is the first word of a line from a place on
abbrev pub FirstWordsAreUnique : Type 0
FirstWordsAreUnique = (bytes : List ℕ) (line : LineSpan) (at : ℕ) (word other : WordSpan) → line.to ≤ length bytes → line.from ≤ at
    → IsFirstWord bytes line at word → IsFirstWord bytes line at other → word ≡ other
