-- The lines of a text, one after the other.
use Rattle.std.proofs.Common.{◌≡◌, ℕ, ◌+◌, ◌-◌, ◌<◌, ◌≤◌, Bool, List, [], ◌∷◌, length, get_or, take, drop, ◌≢◌, true, false, zero, suc, refl, ap, sym, ◌∙◌, inl, inr, arith}
use Rattle.std.proofs.lemmas.List.Splits.{slice_split_first, slice_split_none, length-slice_split}
use Rattle.std.proofs.lemmas.List.Sums.{fails_before_first, passes_at_first}
use Rattle.std.specs.List.{list_any, slice_split, position_or_len, before_first, after_first, slice_range}
use Rattle.std.proofs.lemmas.Slice.{between_to_end}
use Rattle.std.proofs.lemmas.List.{take_all, drop_all, drop-drop, drop_more, take-take, length-drop, length-take-le, get_or-take, get_or-drop}
use Rattle.std.proofs.lemmas.Bool.{ne_eqb, eqb-true, cases_lt, cases_Bool}
use Rattle.std.specs.Str.Lines.{lines, lines_of_parts, strip_carriage_return}
use Rattle.cyc_text.specs.Words.{is_newline}
use Rattle.cyc_text.specs.Spans.{EndsWithFeed, EndsWithReturn}
use Rattle.cyc_text.specs.declared.spans.LineSpan.{LineSpan}

pub parts-cons : (x : List ℕ) (parts : List (List ℕ)) → 0 < length parts → lines_of_parts (x ∷ parts) ≡ strip_carriage_return x ∷ lines_of_parts parts
parts-cons x [] some = absurd (omega arith)
parts-cons x (y ∷ more) some = refl

one_part : (x : List ℕ) → 0 < length x → lines_of_parts (x ∷ []) ≡ x ∷ []
one_part x some = grind arith

-- with no newline, the rest is the last line
pub lines-last : (xs : List ℕ) → 0 < length xs → position_or_len is_newline xs ≡ length xs → lines xs ≡ xs ∷ []
lines-last xs some at_end =
    rw (slice_split_none is_newline xs (λ k d below. fails_before_first is_newline xs k d (omega arith))) (one_part xs some)

-- with one, the line stands before it, less a carriage return
pub lines-first : (xs : List ℕ) → position_or_len is_newline xs < length xs → lines xs ≡ strip_carriage_return (take (position_or_len is_newline xs) xs) ∷ lines (drop (position_or_len is_newline xs + 1) xs)
lines-first xs below =
    rw (slice_split_first is_newline xs 0 below) (parts-cons (before_first is_newline xs) (slice_split is_newline (after_first is_newline xs)) (omega (arith, length-slice_split is_newline (after_first is_newline xs))))

-- the rest of the text, as the code cuts it
pub rest_is : (bytes : List ℕ) (at : ℕ) → slice_range bytes at (length bytes) ≡ drop at bytes
rest_is bytes at = between_to_end bytes at (length bytes) (omega arith)

pub cut_last : (bytes : List ℕ) (at n : ℕ) → at < length bytes → n ≡ position_or_len is_newline (slice_range bytes at (length bytes)) → n ≡ length (slice_range bytes at (length bytes))
    → lines (drop at bytes) ≡ slice_range bytes at (at + n) ∷ lines (drop (at + n) bytes)
cut_last bytes at n more found whole =
    let rest : slice_range bytes at (length bytes) ≡ drop at bytes = rest_is bytes at in
    let size : n ≡ length (drop at bytes) = whole ∙ ap length rest in
    let there : at + n - at ≡ n = omega arith in
    let stop : position_or_len is_newline (drop at bytes) ≡ length (drop at bytes) = ap (λ (ys : List ℕ). position_or_len is_newline ys) (sym rest) ∙ (sym found ∙ size) in
    let line : slice_range bytes at (at + n) ≡ drop at bytes = ap (λ k. take k (drop at bytes)) there ∙ take_all n (drop at bytes) (omega arith) in
    let none : drop (at + n) bytes ≡ [] = drop_all (at + n) bytes (omega (arith, length-drop {A = ℕ})) in
    lines-last (drop at bytes) (omega (arith, length-drop {A = ℕ})) stop ∙ (rw (line, none) refl)

strip_yes : (rest : List ℕ) (n : ℕ) → 0 < n → n ≤ length rest → get_or rest (n - 1) 0 ≡ 13 → strip_carriage_return (take n rest) ≡ take (n - 1) rest
strip_yes rest n some fits return =
    let size : length (take n rest) ≡ n = length-take-le n rest fits in
    let last : get_or (take n rest) (n - 1) 0 ≡ 13 = get_or-take n rest (n - 1) 0 (omega arith) ∙ return in
    rw (size, last) (take-take (n - 1) n rest (omega arith))

strip_no : (rest : List ℕ) (n : ℕ) → n ≤ length rest → (0 < n → get_or rest (n - 1) 0 ≢ 13) → strip_carriage_return (take n rest) ≡ take n rest
strip_no rest n fits other =
    elim (cases_lt 0 n) [
      | inl some ↦
          let size : length (take n rest) ≡ n = length-take-le n rest fits in
          let last : get_or (take n rest) (n - 1) 0 ≢ 13 = rw (get_or-take n rest (n - 1) 0 (omega arith)) (other some) in
          rw (size, ne_eqb (get_or (take n rest) (n - 1) 0) 13 last) refl
      | inr none ↦ let empty : n ≡ 0 = omega arith in rw empty refl
    ]

cut_at : (bytes : List ℕ) (at n : ℕ) → n ≡ position_or_len is_newline (slice_range bytes at (length bytes)) → n < length (slice_range bytes at (length bytes))
    → lines (drop at bytes) ≡ strip_carriage_return (take n (drop at bytes)) ∷ lines (drop (at + n + 1) bytes)
cut_at bytes at n found below =
    let rest : slice_range bytes at (length bytes) ≡ drop at bytes = rest_is bytes at in
    let stop : n ≡ position_or_len is_newline (drop at bytes) = found ∙ ap (λ (ys : List ℕ). position_or_len is_newline ys) rest in
    let fits : n < length (drop at bytes) = rw rest at below in
    let behind : drop (n + 1) (drop at bytes) ≡ drop (at + n + 1) bytes = drop-drop (n + 1) at bytes ∙ ap (λ k. drop k bytes) (let e : at + (n + 1) ≡ at + n + 1 = omega arith in e) in
    (rw (← stop) at (lines-first (drop at bytes) (rw (← stop) fits))) ∙ ap (λ (ys : List ℕ). strip_carriage_return (take n (drop at bytes)) ∷ lines ys) behind

pub cut_return : (bytes : List ℕ) (at n : ℕ) → n ≡ position_or_len is_newline (slice_range bytes at (length bytes)) → n < length (slice_range bytes at (length bytes))
    → 0 < n → get_or (slice_range bytes at (length bytes)) (n - 1) 0 ≡ 13
    → lines (drop at bytes) ≡ slice_range bytes at (at + n - 1) ∷ lines (drop (at + n + 1) bytes)
cut_return bytes at n found below some return =
    let rest : slice_range bytes at (length bytes) ≡ drop at bytes = rest_is bytes at in
    let fits : n < length (drop at bytes) = rw rest at below in
    let last : get_or (drop at bytes) (n - 1) 0 ≡ 13 = rw rest at return in
    let there : n - 1 ≡ at + n - 1 - at = omega arith in
    cut_at bytes at n found below
    ∙ ap (λ (l : List ℕ). l ∷ lines (drop (at + n + 1) bytes)) (strip_yes (drop at bytes) n some (omega arith) last ∙ ap (λ k. take k (drop at bytes)) there)

pub cut_plain : (bytes : List ℕ) (at n : ℕ) → n ≡ position_or_len is_newline (slice_range bytes at (length bytes)) → n < length (slice_range bytes at (length bytes))
    → (0 < n → get_or (slice_range bytes at (length bytes)) (n - 1) 0 ≢ 13)
    → lines (drop at bytes) ≡ slice_range bytes at (at + n) ∷ lines (drop (at + n + 1) bytes)
cut_plain bytes at n found below other =
    let rest : slice_range bytes at (length bytes) ≡ drop at bytes = rest_is bytes at in
    let fits : n < length (drop at bytes) = rw rest at below in
    let last : 0 < n → get_or (drop at bytes) (n - 1) 0 ≢ 13 = rw rest at other in
    let there : n ≡ at + n - at = omega arith in
    cut_at bytes at n found below
    ∙ ap (λ (l : List ℕ). l ∷ lines (drop (at + n + 1) bytes)) (strip_no (drop at bytes) n (omega arith) last ∙ ap (λ k. take k (drop at bytes)) there)

-- before the first byte that passes none does
pub none_before : (p : ℕ → Bool) (xs : List ℕ) (k : ℕ) → k ≤ position_or_len p xs → list_any p (take k xs) ≡ false
none_before p xs zero below = refl
none_before p [] (suc k) below = refl
none_before p (x ∷ xs) (suc k) below =
    elim (cases_Bool (p x)) [
      | inl passes ↦ absurd (omega (arith, rw passes at below))
      | inr other ↦ rw other (none_before p xs k (omega (arith, rw other at below)))
    ]

pub whole_line : (bytes : List ℕ) (at n to : ℕ) → n ≡ position_or_len is_newline (slice_range bytes at (length bytes)) → to ≤ at + n → list_any is_newline (slice_range bytes at to) ≡ false
whole_line bytes at n to found within =
    let stop : n ≡ position_or_len is_newline (drop at bytes) = found ∙ ap (λ (ys : List ℕ). position_or_len is_newline ys) (rest_is bytes at) in
    none_before is_newline (drop at bytes) (to - at) (omega arith)

one_byte : (bytes : List ℕ) (i j : ℕ) → i < length bytes → j ≡ i + 1 → slice_range bytes i j ≡ get_or bytes i 0 ∷ []
one_byte bytes i j below next =
    let one : j - i ≡ 1 = omega arith in
    rw (one, drop_more bytes i 0 below) refl

two_bytes : (bytes : List ℕ) (i j : ℕ) → i + 1 < length bytes → j ≡ i + 2 → slice_range bytes i j ≡ get_or bytes i 0 ∷ get_or bytes (i + 1) 0 ∷ []
two_bytes bytes i j below next =
    let two : j - i ≡ 2 = omega arith in
    rw (two, drop_more bytes i 0 (omega arith), drop_more bytes (i + 1) 0 below) refl

byte_in_rest : (bytes : List ℕ) (at i : ℕ) → get_or (slice_range bytes at (length bytes)) i 0 ≡ get_or bytes (at + i) 0
byte_in_rest bytes at i = ap (λ (ys : List ℕ). get_or ys i 0) (rest_is bytes at) ∙ get_or-drop at bytes i 0

feed_at : (bytes : List ℕ) (at n : ℕ) → n ≡ position_or_len is_newline (slice_range bytes at (length bytes)) → n < length (slice_range bytes at (length bytes)) → get_or bytes (at + n) 0 ≡ 10
feed_at bytes at n found below =
    let rest = slice_range bytes at (length bytes) in
    let passes : is_newline (get_or rest (position_or_len is_newline rest) 0) ≡ true = passes_at_first is_newline rest 0 (rw (← found) below) in
    sym (byte_in_rest bytes at n) ∙ eqb-true (get_or rest n 0) 10 (rw found passes)

size_of_rest : (bytes : List ℕ) (at : ℕ) → length (slice_range bytes at (length bytes)) ≡ length bytes - at
size_of_rest bytes at = ap length (rest_is bytes at) ∙ length-drop at bytes

-- the end of a line that has a newline
pub ends_feed : (bytes : List ℕ) (at n : ℕ) (line : LineSpan) → n ≡ position_or_len is_newline (slice_range bytes at (length bytes)) → n < length (slice_range bytes at (length bytes))
    → (0 < n → get_or (slice_range bytes at (length bytes)) (n - 1) 0 ≢ 13) → line.from ≡ at → line.to ≡ at + n → line.next ≡ at + n + 1 → EndsWithFeed bytes line
ends_feed bytes at n line found below other from to next =
    let size = size_of_rest bytes at in
    let fits : at + n < length bytes = omega arith in
    record {
      feed = rw to (one_byte bytes (at + n) line.next fits next ∙ ap (λ b. b ∷ []) (feed_at bytes at n found below));
      no_return = λ some.
          let there : at + (n - 1) ≡ line.to - 1 = omega arith in
          rw (← there, ← byte_in_rest bytes at (n - 1)) (other (omega arith));
    }

pub ends_return : (bytes : List ℕ) (at n : ℕ) (line : LineSpan) → n ≡ position_or_len is_newline (slice_range bytes at (length bytes)) → n < length (slice_range bytes at (length bytes))
    → 0 < n → get_or (slice_range bytes at (length bytes)) (n - 1) 0 ≡ 13 → line.to ≡ at + n - 1 → line.next ≡ at + n + 1 → EndsWithReturn bytes line
ends_return bytes at n line found below some return to next =
    let size = size_of_rest bytes at in
    let there : at + (n - 1) ≡ line.to = omega arith in
    let behind : at + n ≡ line.to + 1 = omega arith in
    let first : get_or bytes line.to 0 ≡ 13 = rw (← there) (sym (byte_in_rest bytes at (n - 1)) ∙ return) in
    let second : get_or bytes (line.to + 1) 0 ≡ 10 = rw (← behind) (feed_at bytes at n found below) in
    two_bytes bytes line.to line.next (omega arith) (omega arith) ∙ (rw (first, second) refl)
