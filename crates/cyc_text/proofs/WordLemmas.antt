-- The words of a line, one after the other.
use Rattle.std.proofs.Common.{◌≡◌, ℕ, ◌+◌, ◌-◌, ◌<◌, ◌≤◌, Bool, true, false, not, List, [], ◌∷◌, length, get_or, take, drop, refl, ap, sym, ◌∙◌, arith, zero, suc, inl, inr, ltb}
use Rattle.std.proofs.lemmas.Bool.{cases_Bool, lt-ltb, cases_lt, or_left, or_right, or_from, or_parts}
use Rattle.std.proofs.lemmas.Bool.Decides.{nat_tests}
use Rattle.std.proofs.lemmas.List.Splits.{slice_split_first, slice_split_none}
use Rattle.std.proofs.lemmas.List.Sums.{fails_before_first, passes_at_first, position_or_len_is, prefix_len-le-length}
use Rattle.std.proofs.lemmas.List.{take_all, take-take, drop_all, drop-drop, drop_more, length-take}
use Rattle.std.proofs.lemmas.Slice.{between_is}
use Rattle.std.specs.List.{slice_split, position_or_len, before_first, after_first, list_all, list_any, filter, slice_range}
use Rattle.cyc_text.specs.Words.{is_hash, is_blank, is_no_blank, ends_word, runs_of}

-- one more byte that is not sought, and one that is
pub position_or_len-cons_no : (p : ℕ → Bool) (x : ℕ) (xs : List ℕ) → p x ≡ false → position_or_len p (x ∷ xs) ≡ suc (position_or_len p xs)
position_or_len-cons_no p x xs other = rw other (omega arith)

pub position_or_len-cons_yes : (p : ℕ → Bool) (x : ℕ) (xs : List ℕ) → p x ≡ true → position_or_len p (x ∷ xs) ≡ 0
position_or_len-cons_yes p x xs sought = rw sought refl

pub before_first-cons_no : (p : ℕ → Bool) (x : ℕ) (xs : List ℕ) → p x ≡ false → before_first p (x ∷ xs) ≡ x ∷ before_first p xs
before_first-cons_no p x xs other = rw (position_or_len-cons_no p x xs other) refl

before_first-cons_yes : (p : ℕ → Bool) (x : ℕ) (xs : List ℕ) → p x ≡ true → before_first p (x ∷ xs) ≡ []
before_first-cons_yes p x xs sought = rw (position_or_len-cons_yes p x xs sought) refl

-- bytes without a hash stand before the comment, and the comment starts behind them
pub before_comment-drop : (p : ℕ → Bool) (xs : List ℕ) (i : ℕ) → list_any p (take i xs) ≡ false → drop i (before_first p xs) ≡ before_first p (drop i xs)
before_comment-drop p xs zero absent = refl
before_comment-drop p [] (suc i) absent = refl
before_comment-drop p (x ∷ xs) (suc i) absent =
    let here : p x ≡ false = grind arith in
    let rest : list_any p (take i xs) ≡ false = grind arith in
    rw (position_or_len-cons_no p x xs here) (before_comment-drop p xs i rest)

-- nothing is left past a hash
pub past_comment : (p : ℕ → Bool) (xs : List ℕ) (i : ℕ) → list_any p (take i xs) ≡ true → drop i (before_first p xs) ≡ []
past_comment p xs zero some = absurd (cc)
past_comment p [] (suc i) some = absurd (cc)
past_comment p (x ∷ xs) (suc i) some =
    elim (cases_Bool (p x)) [
      | inl here ↦ rw (position_or_len-cons_yes p x xs here) refl
      | inr other ↦ let rest : list_any p (take i xs) ≡ true = grind arith in rw (position_or_len-cons_no p x xs other) (past_comment p xs i rest)
    ]

blank_is_no_hash : (x : ℕ) → is_blank x ≡ true → is_hash x ≡ false
blank_is_no_hash x blank = grind (arith, nat_tests)

pub no_blank_from : (x : ℕ) → is_blank x ≡ true → is_no_blank x ≡ false
no_blank_from x blank = rw blank refl

-- blanks in front change nothing
runs_of-blank : (x : ℕ) (xs : List ℕ) → is_blank x ≡ true → runs_of (x ∷ xs) ≡ runs_of xs
runs_of-blank x xs blank = rw blank refl

pub kept : (run : List ℕ) (runs : List (List ℕ)) → 0 < length run → filter (λ r. ltb 0 (length r)) (run ∷ runs) ≡ run ∷ filter (λ r. ltb 0 (length r)) runs
kept run runs some = rw (lt-ltb 0 (length run) some) refl

-- the first run of a list that starts with one
runs_of-first : (xs : List ℕ) → 0 < position_or_len is_blank xs → runs_of xs ≡ take (position_or_len is_blank xs) xs ∷ runs_of (drop (position_or_len is_blank xs) xs)
runs_of-first xs some =
    let n = position_or_len is_blank xs in
    elim (cases_lt n (length xs)) [
      | inl below ↦
          rw (slice_split_first is_blank xs 0 below)
          (kept (take n xs) (slice_split is_blank (after_first is_blank xs)) (omega (arith, length-take {A = ℕ}))
          ∙ ap (λ (runs : List (List ℕ)). take n xs ∷ runs) (sym (rw (drop_more xs n 0 below) (runs_of-blank (get_or xs n 0) (drop (n + 1) xs) (passes_at_first is_blank xs 0 below)))))
      | inr whole ↦
          rw (slice_split_none is_blank xs (λ k d below. fails_before_first is_blank xs k d (omega arith)))
          (kept xs [] (omega (arith, prefix_len-le-length (λ b. not (is_blank b)) xs))
          ∙ (rw (take_all n xs whole, drop_all n xs whole) refl))
    ]

skip_blanks : (xs : List ℕ) → runs_of (before_first is_hash xs) ≡ runs_of (before_first is_hash (drop (position_or_len is_no_blank xs) xs))
skip_blanks [] = refl
skip_blanks (x ∷ xs) =
    elim (cases_Bool (is_blank x)) [
      | inl blank ↦
          rw (position_or_len-cons_no is_no_blank x xs (no_blank_from x blank), before_first-cons_no is_hash x xs (blank_is_no_hash x blank))
          (runs_of-blank x (before_first is_hash xs) blank ∙ skip_blanks xs)
      | inr word ↦ rw (position_or_len-cons_yes is_no_blank x xs (rw word refl)) refl
    ]

only_blanks_in_front : (xs : List ℕ) → list_all is_blank (take (position_or_len is_no_blank xs) xs) ≡ true
only_blanks_in_front [] = refl
only_blanks_in_front (x ∷ xs) =
    elim (cases_Bool (is_blank x)) [
      | inl blank ↦ rw (position_or_len-cons_no is_no_blank x xs (no_blank_from x blank), blank) (only_blanks_in_front xs)
      | inr word ↦ rw (position_or_len-cons_yes is_no_blank x xs (rw word refl)) refl
    ]

no_comment_in_blanks : (xs : List ℕ) → list_any is_hash (take (position_or_len is_no_blank xs) xs) ≡ false
no_comment_in_blanks [] = refl
no_comment_in_blanks (x ∷ xs) =
    elim (cases_Bool (is_blank x)) [
      | inl blank ↦ rw (position_or_len-cons_no is_no_blank x xs (no_blank_from x blank), blank_is_no_hash x blank) (no_comment_in_blanks xs)
      | inr word ↦ rw (position_or_len-cons_yes is_no_blank x xs (rw word refl)) refl
    ]

-- a word ends at a blank, or where the comment starts
word_stops : (xs : List ℕ) → position_or_len is_blank (before_first is_hash xs) ≡ position_or_len ends_word xs
word_stops [] = refl
word_stops (x ∷ xs) =
    elim (cases_Bool (is_hash x)) [
      | inl hash ↦ rw (before_first-cons_yes is_hash x xs hash, position_or_len-cons_yes ends_word x xs (or_right (is_blank x) (is_hash x) hash)) refl
      | inr other ↦ elim (cases_Bool (is_blank x)) [
        | inl blank ↦
            rw (before_first-cons_no is_hash x xs other, position_or_len-cons_yes ends_word x xs (or_left (is_blank x) (is_hash x) blank))
            (position_or_len-cons_yes is_blank x (before_first is_hash xs) blank)
        | inr word ↦
            rw (before_first-cons_no is_hash x xs other, position_or_len-cons_no ends_word x xs (or_from (is_blank x) (is_hash x) word other), position_or_len-cons_no is_blank x (before_first is_hash xs) word)
            (ap (λ n. suc n) (word_stops xs))
      ]
    ]

word_take : (xs : List ℕ) → take (position_or_len ends_word xs) (before_first is_hash xs) ≡ take (position_or_len ends_word xs) xs
word_take [] = refl
word_take (x ∷ xs) =
    elim (cases_Bool (ends_word x)) [
      | inl stop ↦ rw (position_or_len-cons_yes ends_word x xs stop) refl
      | inr word ↦
          rw (position_or_len-cons_no ends_word x xs word, before_first-cons_no is_hash x xs (or_parts (is_blank x) (is_hash x) word).1)
          (ap (λ (ys : List ℕ). x ∷ ys) (word_take xs))
    ]

no_word : (xs : List ℕ) → position_or_len is_no_blank xs ≡ 0 → position_or_len ends_word xs ≡ 0 → before_first is_hash xs ≡ []
no_word [] front stop = refl
no_word (x ∷ xs) front stop =
    elim (cases_Bool (is_hash x)) [
      | inl hash ↦ before_first-cons_yes is_hash x xs hash
      | inr other ↦ elim (cases_Bool (is_blank x)) [
        | inl blank ↦ absurd (omega (arith, front, position_or_len-cons_no is_no_blank x xs (no_blank_from x blank)))
        | inr word ↦ absurd (omega (arith, stop, position_or_len-cons_no ends_word x xs (or_from (is_blank x) (is_hash x) word other)))
      ]
    ]

-- what follows blanks starts with no blank
after_blanks : (xs : List ℕ) → position_or_len is_no_blank (drop (position_or_len is_no_blank xs) xs) ≡ 0
after_blanks [] = refl
after_blanks (x ∷ xs) =
    elim (cases_Bool (is_blank x)) [
      | inl blank ↦ rw (position_or_len-cons_no is_no_blank x xs (no_blank_from x blank)) (after_blanks xs)
      | inr word ↦
          let here = position_or_len-cons_yes is_no_blank x xs (rw word refl) in
          rw here here
    ]

-- parts of a part of the text
pub slice-drop : (bytes : List ℕ) (from at to : ℕ) → from ≤ at → drop (at - from) (slice_range bytes from to) ≡ slice_range bytes at to
slice-drop bytes from at to after =
    let there : from + (at - from) ≡ at = omega arith in
    ap (λ (ys : List ℕ). drop (at - from) ys) (between_is bytes from to)
    ∙ (drop-drop (at - from) from (take to bytes) ∙ (ap (λ n. drop n (take to bytes)) there ∙ sym (between_is bytes at to)))

pub slice-take : (bytes : List ℕ) (from at to : ℕ) → at ≤ to → take (at - from) (slice_range bytes from to) ≡ slice_range bytes from at
slice-take bytes from at to before = take-take (at - from) (to - from) (drop from bytes) (omega arith)

-- what is left of a line from a place before the comment on
pub left_from : (bytes : List ℕ) (from at to : ℕ) → from ≤ at → at ≤ to → list_any is_hash (slice_range bytes from at) ≡ false → drop (at - from) (before_first is_hash (slice_range bytes from to)) ≡ before_first is_hash (slice_range bytes at to)
left_from bytes from at to after before absent =
    before_comment-drop is_hash (slice_range bytes from to) (at - from) (rw (slice-take bytes from at to before) absent)
    ∙ ap (λ (ys : List ℕ). before_first is_hash ys) (slice-drop bytes from at to after)

pub none_past_comment : (bytes : List ℕ) (from at to : ℕ) → at ≤ to → list_any is_hash (slice_range bytes from at) ≡ true → runs_of (drop (at - from) (before_first is_hash (slice_range bytes from to))) ≡ []
none_past_comment bytes from at to before some =
    rw (past_comment is_hash (slice_range bytes from to) (at - from) (rw (slice-take bytes from at to before) some)) refl

-- the bytes behind the blanks
behind_blanks : (bytes : List ℕ) (at to n : ℕ) → n ≡ position_or_len is_no_blank (slice_range bytes at to) → drop n (slice_range bytes at to) ≡ slice_range bytes (at + n) to
behind_blanks bytes at to n skipped =
    let there : (at + n) - at ≡ n = omega arith in
    ap (λ k. drop k (slice_range bytes at to)) (sym there) ∙ slice-drop bytes at (at + n) to (omega arith)

pub blanks_lead : (bytes : List ℕ) (at to n : ℕ) → n ≡ position_or_len is_no_blank (slice_range bytes at to) → at + n ≤ to → list_all is_blank (slice_range bytes at (at + n)) ≡ true
blanks_lead bytes at to n skipped fits =
    let there : at + n - at ≡ n = omega arith in
    let same : take n (slice_range bytes at to) ≡ slice_range bytes at (at + n) = ap (λ k. take k (slice_range bytes at to)) (sym there) ∙ slice-take bytes at (at + n) to fits in
    ap (λ (ys : List ℕ). list_all is_blank ys) (sym same ∙ ap (λ k. take k (slice_range bytes at to)) skipped) ∙ only_blanks_in_front (slice_range bytes at to)

runs_behind_blanks : (bytes : List ℕ) (at to n : ℕ) → n ≡ position_or_len is_no_blank (slice_range bytes at to) → runs_of (before_first is_hash (slice_range bytes at to)) ≡ runs_of (before_first is_hash (slice_range bytes (at + n) to))
runs_behind_blanks bytes at to n skipped =
    skip_blanks (slice_range bytes at to)
    ∙ ap (λ (ys : List ℕ). runs_of (before_first is_hash ys)) (ap (λ k. drop k (slice_range bytes at to)) (sym skipped) ∙ behind_blanks bytes at to n skipped)

pub none_left : (bytes : List ℕ) (from at to n m : ℕ) → from ≤ at → at ≤ to → list_any is_hash (slice_range bytes from at) ≡ false
    → n ≡ position_or_len is_no_blank (slice_range bytes at to) → m ≡ position_or_len ends_word (slice_range bytes (at + n) to) → m ≡ 0
    → runs_of (drop (at - from) (before_first is_hash (slice_range bytes from to))) ≡ []
none_left bytes from at to n m after before absent skipped stopped none =
    let front : position_or_len is_no_blank (slice_range bytes (at + n) to) ≡ 0 =
    (rw (← behind_blanks bytes at to n skipped, skipped) (after_blanks (slice_range bytes at to))) in
    ap (λ (ys : List ℕ). runs_of ys) (left_from bytes from at to after before absent)
    ∙ (runs_behind_blanks bytes at to n skipped ∙ ap (λ (ys : List ℕ). runs_of ys) (no_word (slice_range bytes (at + n) to) front (sym stopped ∙ none)))

drop_further : (code : List ℕ) (from at n : ℕ) → from ≤ at → drop (at + n - from) code ≡ drop n (drop (at - from) code)
drop_further code from at n after =
    let there : at + n - from ≡ at - from + n = omega arith in
    rw there (sym (drop-drop n (at - from) code))

-- what is left of a line behind the blanks
left_behind_blanks : (bytes : List ℕ) (from at to n : ℕ) → from ≤ at → at ≤ to → list_any is_hash (slice_range bytes from at) ≡ false
    → n ≡ position_or_len is_no_blank (slice_range bytes at to)
    → drop (at + n - from) (before_first is_hash (slice_range bytes from to)) ≡ before_first is_hash (slice_range bytes (at + n) to)
left_behind_blanks bytes from at to n after before absent skipped =
    let line = slice_range bytes at to in
    let blanks : list_any is_hash (take n line) ≡ false = rw skipped (no_comment_in_blanks line) in
    drop_further (before_first is_hash (slice_range bytes from to)) from at n after
    ∙ (ap (λ (ys : List ℕ). drop n ys) (left_from bytes from at to after before absent)
    ∙ (before_comment-drop is_hash line n blanks
    ∙ ap (λ (ys : List ℕ). before_first is_hash ys) (behind_blanks bytes at to n skipped)))

word_is : (bytes : List ℕ) (from to m : ℕ) → m ≡ position_or_len ends_word (slice_range bytes from to) → from + m ≤ to
    → take m (before_first is_hash (slice_range bytes from to)) ≡ slice_range bytes from (from + m)
word_is bytes from to m stopped fits =
    let there : from + m - from ≡ m = omega arith in
    let same : take m (before_first is_hash (slice_range bytes from to)) ≡ take m (slice_range bytes from to) = rw stopped (word_take (slice_range bytes from to)) in
    same ∙ (ap (λ k. take k (slice_range bytes from to)) (sym there) ∙ slice-take bytes from (from + m) to fits)

pub first_left : (bytes : List ℕ) (from at to n m : ℕ) → from ≤ at → at ≤ to → list_any is_hash (slice_range bytes from at) ≡ false
    → n ≡ position_or_len is_no_blank (slice_range bytes at to) → m ≡ position_or_len ends_word (slice_range bytes (at + n) to) → 0 < m → at + n + m ≤ to
    → runs_of (drop (at - from) (before_first is_hash (slice_range bytes from to))) ≡ slice_range bytes (at + n) (at + n + m) ∷ runs_of (drop (at + n + m - from) (before_first is_hash (slice_range bytes from to)))
first_left bytes from at to n m after before absent skipped stopped some fits =
    let rest = slice_range bytes (at + n) to in
    let code = before_first is_hash (slice_range bytes from to) in
    let ends : position_or_len is_blank (before_first is_hash rest) ≡ m = word_stops rest ∙ sym stopped in
    let word : take m (before_first is_hash rest) ≡ slice_range bytes (at + n) (at + n + m) = word_is bytes (at + n) to m stopped fits in
    let behind : drop m (before_first is_hash rest) ≡ drop (at + n + m - from) code =
    sym (drop_further code from (at + n) m (omega arith) ∙ ap (λ (ys : List ℕ). drop m ys) (left_behind_blanks bytes from at to n after before absent skipped)) in
    let step : runs_of (before_first is_hash rest) ≡ take m (before_first is_hash rest) ∷ runs_of (drop m (before_first is_hash rest)) =
    rw ends at (runs_of-first (before_first is_hash rest) (rw ends some)) in
    ap (λ (ys : List ℕ). runs_of ys) (left_from bytes from at to after before absent)
    ∙ (runs_behind_blanks bytes at to n skipped
    ∙ (step ∙ (ap (λ (w : List ℕ). w ∷ runs_of (drop m (before_first is_hash rest))) word ∙ ap (λ (ys : List ℕ). slice_range bytes (at + n) (at + n + m) ∷ runs_of ys) behind)))

no_comment_in_word : (xs : List ℕ) → list_any is_hash (take (position_or_len ends_word xs) xs) ≡ false
no_comment_in_word [] = refl
no_comment_in_word (x ∷ xs) =
    elim (cases_Bool (ends_word x)) [
      | inl stop ↦ rw (position_or_len-cons_yes ends_word x xs stop) refl
      | inr word ↦ rw (position_or_len-cons_no ends_word x xs word, (or_parts (is_blank x) (is_hash x) word).1) (no_comment_in_word xs)
    ]

-- behind a word, what is left is the words of the rest of the line
pub left_behind_word : (bytes : List ℕ) (from at to n m : ℕ) → from ≤ at → at ≤ to → list_any is_hash (slice_range bytes from at) ≡ false
    → n ≡ position_or_len is_no_blank (slice_range bytes at to) → m ≡ position_or_len ends_word (slice_range bytes (at + n) to)
    → runs_of (drop (at + n + m - from) (before_first is_hash (slice_range bytes from to))) ≡ runs_of (before_first is_hash (slice_range bytes (at + n + m) to))
left_behind_word bytes from at to n m after before absent skipped stopped =
    let rest = slice_range bytes (at + n) to in
    let word : list_any is_hash (take m rest) ≡ false = rw stopped (no_comment_in_word rest) in
    let there : m ≡ at + n + m - (at + n) = omega arith in
    ap (λ (ys : List ℕ). runs_of ys)
    (drop_further (before_first is_hash (slice_range bytes from to)) from (at + n) m (omega arith)
    ∙ (ap (λ (ys : List ℕ). drop m ys) (left_behind_blanks bytes from at to n after before absent skipped)
    ∙ (before_comment-drop is_hash rest m word
    ∙ ap (λ (ys : List ℕ). before_first is_hash ys) (ap (λ k. drop k rest) there ∙ slice-drop bytes (at + n) (at + n + m) to (omega arith)))))

-- a search that came to the end
pub none_found : (p : ℕ → Bool) (xs : List ℕ) (i : ℕ) → ((k : ℕ) → k < i → p (get_or xs k 0) ≡ false) → length xs ≤ i → length xs ≡ position_or_len p xs
none_found p xs i absent all = sym (position_or_len_is p xs (length xs) 0 (omega arith) (λ k below. absent k (omega arith)) (λ below. absurd (omega arith)))
