-- Written words and lines are read back.
use Rattle.std.proofs.Common.{◌≡◌, ℕ, ◌-◌, ◌<◌, Bool, false, List, [], ◌∷◌, ◌++◌, length, get_or, refl, ap, ◌∙◌, arith, inl, inr, zero, suc, ltb, ◌≢◌}
use Rattle.std.proofs.lemmas.Bool.{cases_Bool, or_parts, or_from, ne_eqb}
use Rattle.std.proofs.lemmas.List.Splits.{slice_split_at, slice_split_none, slice_split-cons_yes, slice_split-cons_no, length-slice_split}
use Rattle.std.proofs.lemmas.List.Folds.{list_any-append}
use Rattle.std.specs.List.{All, list_any, slice_split, onto_first, join_with_byte, position_or_len, before_first, filter}
use Rattle.std.specs.Str.Lines.{lines, strip_carriage_return}
use Rattle.cyc_text.specs.Words.{is_newline, is_hash, is_blank, ends_word, runs_of}
use Rattle.cyc_text.specs.ReadBack.{IsWord, IsLine, written_lines, WordsArePlain, WordsReadBack, LinesReadBack}
use Rattle.cyc_text.proofs.LineLemmas.{parts-cons, none_before}
use Rattle.cyc_text.proofs.WordLemmas.{kept, before_first-cons_no}

-- a test of a list, of its head and of its tail
pub head_of : (P : List ℕ → Type 0) (x : List ℕ) (xs : List (List ℕ)) → All P (x ∷ xs) → P x
head_of P x xs all = all zero [] (omega arith)

tail_of : (P : List ℕ → Type 0) (x : List ℕ) (xs : List (List ℕ)) → All P (x ∷ xs) → All P xs
tail_of P x xs all = λ k d below. all (suc k) d (omega arith)

none_passes : (p : ℕ → Bool) (xs : List ℕ) → list_any p xs ≡ false → (k : ℕ) (d : ℕ) → k < length xs → p (get_or xs k d) ≡ false
none_passes p [] none k d below = absurd (omega arith)
none_passes p (x ∷ xs) none zero d below = (or_parts (p x) (list_any p xs) none).0
none_passes p (x ∷ xs) none (suc k) d below = none_passes p xs (or_parts (p x) (list_any p xs) none).1 k d (omega arith)

no_hash : (xs : List ℕ) → list_any ends_word xs ≡ false → list_any is_hash xs ≡ false
no_hash [] plain = refl
no_hash (x ∷ xs) plain =
    let parts = or_parts (ends_word x) (list_any ends_word xs) plain in
    or_from (is_hash x) (list_any is_hash xs) (or_parts (is_blank x) (is_hash x) parts.0).1 (no_hash xs parts.1)

no_blank : (xs : List ℕ) → list_any ends_word xs ≡ false → list_any is_blank xs ≡ false
no_blank [] plain = refl
no_blank (x ∷ xs) plain =
    let parts = or_parts (ends_word x) (list_any ends_word xs) plain in
    or_from (is_blank x) (list_any is_blank xs) (or_parts (is_blank x) (is_hash x) parts.0).0 (no_blank xs parts.1)

all_before : (p : ℕ → Bool) (xs : List ℕ) → list_any p xs ≡ false → before_first p xs ≡ xs
all_before p [] none = refl
all_before p (x ∷ xs) none =
    let parts = or_parts (p x) (list_any p xs) none in
    before_first-cons_no p x xs parts.0 ∙ ap (λ (ys : List ℕ). x ∷ ys) (all_before p xs parts.1)

-- the runs of joined words
one_run : (word : List ℕ) → IsWord word → runs_of word ≡ word ∷ []
one_run word is =
    rw (slice_split_none is_blank word (none_passes is_blank word (no_blank word is.plain))) (kept word [] is.some)

more_runs : (word rest : List ℕ) → IsWord word → runs_of (word ++ 32 ∷ rest) ≡ word ∷ runs_of rest
more_runs word rest is =
    rw (slice_split_at is_blank word 32 rest (none_passes is_blank word (no_blank word is.plain)) refl) (kept word (slice_split is_blank rest) is.some)

joined_runs : (words : List (List ℕ)) → All IsWord words → runs_of (join_with_byte 32 words) ≡ words
joined_runs [] all = refl
joined_runs (x ∷ []) all = one_run x (head_of IsWord x [] all)
joined_runs (x ∷ y ∷ xs) all =
    more_runs x (join_with_byte 32 (y ∷ xs)) (head_of IsWord x (y ∷ xs) all)
    ∙ ap (λ (runs : List (List ℕ)). x ∷ runs) (joined_runs (y ∷ xs) (tail_of IsWord x (y ∷ xs) all))

joined_plain : (words : List (List ℕ)) → All IsWord words → list_any is_hash (join_with_byte 32 words) ≡ false
joined_plain [] all = refl
joined_plain (x ∷ []) all = no_hash x (head_of IsWord x [] all).plain
joined_plain (x ∷ y ∷ xs) all =
    list_any-append is_hash x (32 ∷ join_with_byte 32 (y ∷ xs))
    ∙ or_from (list_any is_hash x) (list_any is_hash (join_with_byte 32 (y ∷ xs))) (no_hash x (head_of IsWord x (y ∷ xs) all).plain) (joined_plain (y ∷ xs) (tail_of IsWord x (y ∷ xs) all))

pub words_are_read_back : WordsReadBack
words_are_read_back words all =
    ap (λ (line : List ℕ). runs_of line) (all_before is_hash (join_with_byte 32 words) (joined_plain words all)) ∙ joined_runs words all

-- the runs of a line with no '#' are words
abbrev EachPlain : List (List ℕ) → Type 0
EachPlain [] = Unit {0}
EachPlain (run ∷ runs) = (list_any ends_word run ≡ false) × EachPlain runs

onto_plain : (x : ℕ) (runs : List (List ℕ)) → ends_word x ≡ false → EachPlain runs → EachPlain (onto_first x runs)
onto_plain x [] plain each = (or_from (ends_word x) false plain refl, tt)
onto_plain x (run ∷ runs) plain each = (or_from (ends_word x) (list_any ends_word run) plain each.0, each.1)

runs_plain : (xs : List ℕ) → list_any is_hash xs ≡ false → EachPlain (slice_split is_blank xs)
runs_plain [] none = (refl, tt)
runs_plain (x ∷ xs) none =
    let parts = or_parts (is_hash x) (list_any is_hash xs) none in
    elim (cases_Bool (is_blank x)) [
      | inl blank ↦ rw (slice_split-cons_yes is_blank x xs blank) (refl, runs_plain xs parts.1)
      | inr other ↦ rw (slice_split-cons_no is_blank x xs other) (onto_plain x (slice_split is_blank xs) (or_from (is_blank x) (is_hash x) other parts.0) (runs_plain xs parts.1))
    ]

abbrev EachWord : List (List ℕ) → Type 0
EachWord [] = Unit {0}
EachWord (run ∷ runs) = IsWord run × EachWord runs

kept_words : (runs : List (List ℕ)) → EachPlain runs → EachWord (filter (λ run. ltb 0 (length run)) runs)
kept_words [] each = tt
kept_words ([] ∷ runs) each = kept_words runs each.1
kept_words ((x ∷ run) ∷ runs) each =
    rw (kept (x ∷ run) runs (omega arith)) (record { some = omega arith; plain = each.0 }, kept_words runs each.1)

all_words : (runs : List (List ℕ)) → EachWord runs → (k : ℕ) (d : List ℕ) → k < length runs → IsWord (get_or runs k d)
all_words [] each k d below = absurd (omega arith)
all_words (run ∷ runs) each zero d below = each.0
all_words (run ∷ runs) each (suc k) d below = all_words runs each.1 k d (omega arith)

pub words_are_plain : WordsArePlain
words_are_plain line =
    let code = before_first is_hash line in
    all_words (runs_of code) (kept_words (slice_split is_blank code) (runs_plain code (none_before is_hash line (position_or_len is_hash line) (omega arith))))

-- a written line is cut off again
strip_same : (line : List ℕ) → get_or line (length line - 1) 0 ≢ 13 → strip_carriage_return line ≡ line
strip_same line other = rw (ne_eqb (get_or line (length line - 1) 0) 13 other) refl

pub lines_are_read_back : LinesReadBack
lines_are_read_back [] all = refl
lines_are_read_back (x ∷ xs) all =
    let is = head_of IsLine x xs all in
    rw (slice_split_at is_newline x 10 (written_lines xs) (none_passes is_newline x is.whole) refl)
    (parts-cons x (slice_split is_newline (written_lines xs)) (omega (arith, length-slice_split is_newline (written_lines xs)))
    ∙ (ap (λ (line : List ℕ). line ∷ lines (written_lines xs)) (strip_same x is.no_return)
    ∙ ap (λ (more : List (List ℕ)). x ∷ more) (lines_are_read_back xs (tail_of IsLine x xs all))))
