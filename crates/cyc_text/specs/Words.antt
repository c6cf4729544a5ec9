-- The words of a line.
use Rattle.std.specs.Prelude.{ℕ, ◌-◌, ◌==◌, ◌||◌, Bool, not, List, length, drop, filter, nat_lt, slice_range}
use Rattle.std.specs.List.{slice_split, before_first}
use Rattle.cyc_text.specs.declared.spans.LineSpan.{LineSpan}

-- a line feed
abbrev pub is_newline : ℕ → Bool
is_newline b = b == 10

-- a '#'
abbrev pub is_hash : ℕ → Bool
is_hash b = b == 35

-- a space or a tab
abbrev pub is_blank : ℕ → Bool
is_blank b = (b == 32) || (b == 9)

-- neither a space nor a tab
abbrev pub is_no_blank : ℕ → Bool
is_no_blank b = not (is_blank b)

-- a blank, or the start of a comment
abbrev pub ends_word : ℕ → Bool
ends_word b = is_blank b || is_hash b

-- the runs between blanks that are not empty
abbrev pub runs_of : List ℕ → List (List ℕ)
runs_of bytes = filter (λ run. nat_lt 0 (length run)) (slice_split is_blank bytes)

-- a line's words stand before its first '#'
abbrev pub words_of : List ℕ → List (List ℕ)
words_of line = runs_of (before_first is_hash line)

-- the words of a line of the text, from a place on
abbrev pub words_left : List ℕ → LineSpan → ℕ → List (List ℕ)
words_left bytes line at = runs_of (drop (at - line.from) (before_first is_hash (slice_range bytes line.from line.to)))
