-- The first word of a line from a place on is one span.
use Rattle.std.proofs.Common.{◌≡◌, ℕ, ◌+◌, ◌-◌, ◌<◌, ◌≤◌, true, false, List, [], ◌∷◌, length, take, drop, refl, ap, sym, ◌∙◌, arith, inl, inr, zero, suc}
use Rattle.std.proofs.lemmas.Bool.{cases_Bool, or_parts, and_parts}
use Rattle.std.proofs.lemmas.List.{length-take, length-drop}
use Rattle.std.specs.List.{All, list_all, list_any, position_or_len, slice_range}
use Rattle.cyc_text.specs.declared.spans.LineSpan.{LineSpan}
use Rattle.cyc_text.specs.declared.spans.WordSpan.{WordSpan}
use Rattle.cyc_text.specs.Words.{is_hash, is_blank, is_no_blank, ends_word, runs_of, words_of, words_left}
use Rattle.cyc_text.specs.Spans.{IsFirstWord, FirstWordsAreUnique}
use Rattle.cyc_text.specs.ReadBack.{IsWord}
use Rattle.cyc_text.proofs.ReadBackLemmas.{words_are_plain, head_of}
use Rattle.cyc_text.proofs.WordLemmas.{position_or_len-cons_no, position_or_len-cons_yes, no_blank_from, none_past_comment, left_from, slice-drop, slice-take}

-- behind blanks alone, and with no blank at its front, a word starts at the first byte that is no blank
starts_behind : (xs : List ℕ) (n m : ℕ) → list_all is_blank (take n xs) ≡ true → 0 < length (take (suc m) (drop n xs)) → list_any ends_word (take (suc m) (drop n xs)) ≡ false → position_or_len is_no_blank xs ≡ n
starts_behind [] zero m lead some plain = absurd (omega arith)
starts_behind [] (suc n) m lead some plain = absurd (omega arith)
starts_behind (x ∷ xs) zero m lead some plain =
    let here : is_blank x ≡ false = (or_parts (is_blank x) (is_hash x) (or_parts (ends_word x) (list_any ends_word (take m xs)) plain).0).0 in
    position_or_len-cons_yes is_no_blank x xs (rw here refl)
starts_behind (x ∷ xs) (suc n) m lead some plain =
    let parts = and_parts (is_blank x) (list_all is_blank (take n xs)) lead in
    position_or_len-cons_no is_no_blank x xs (no_blank_from x parts.0) ∙ ap (λ k. suc k) (starts_behind xs n m parts.1 some plain)

head_is_word : (runs : List (List ℕ)) (word : List ℕ) (rest : List (List ℕ)) → All IsWord runs → runs ≡ word ∷ rest → IsWord word
head_is_word [] word rest all same = absurd (cc (same))
head_is_word (run ∷ runs) word rest all same =
    let here : run ≡ word = cc (same) in
    rw (← here) (head_of IsWord run runs all)

-- what is left of a line starts with a word
first_is_word : (bytes : List ℕ) (line : LineSpan) (at : ℕ) (word : List ℕ) (rest : List (List ℕ)) → line.from ≤ at → at ≤ line.to → words_left bytes line at ≡ word ∷ rest → IsWord word
first_is_word bytes line at word rest after before cut =
    elim (cases_Bool (list_any is_hash (slice_range bytes line.from at))) [
      | inl some ↦ absurd (cc (none_past_comment bytes line.from at line.to before some, cut))
      | inr absent ↦
          let same : words_of (slice_range bytes at line.to) ≡ word ∷ rest = ap (λ (ys : List ℕ). runs_of ys) (sym (left_from bytes line.from at line.to after before absent)) ∙ cut in
          head_is_word (words_of (slice_range bytes at line.to)) word rest (words_are_plain (slice_range bytes at line.to)) same
    ]

-- where the first word starts: at the first byte that is no blank
word_starts : (bytes : List ℕ) (line : LineSpan) (at : ℕ) (word : WordSpan) → line.to ≤ length bytes → line.from ≤ at → IsFirstWord bytes line at word
    → word.from ≡ at + position_or_len is_no_blank (slice_range bytes at line.to)
word_starts bytes line at word inside after is =
    let starts = is.starts in
    let some = is.some in
    let within = is.within in
    let rest = slice_range bytes at line.to in
    let there : at + (word.from - at) ≡ word.from = omega arith in
    let count : suc (word.to - word.from - 1) ≡ word.to - word.from = omega arith in
    let front : take (word.from - at) rest ≡ slice_range bytes at word.from = slice-take bytes at word.from line.to (omega arith) in
    let behind : drop (word.from - at) rest ≡ slice_range bytes word.from line.to = slice-drop bytes at word.from line.to starts in
    let same : take (suc (word.to - word.from - 1)) (drop (word.from - at) rest) ≡ slice_range bytes word.from word.to =
    rw (count, behind) (slice-take bytes word.from word.to line.to within) in
    let is_word = first_is_word bytes line at (slice_range bytes word.from word.to) (words_left bytes line word.to) after (omega arith) is.cut in
    let filled = is_word.some in
    let n : position_or_len is_no_blank rest ≡ word.from - at =
    starts_behind rest (word.from - at) (word.to - word.from - 1) (rw front is.lead) (rw same filled) (rw same is_word.plain) in
    omega (arith, n, starts)

-- how long a part of the text is
pub part_len : (bytes : List ℕ) (from to : ℕ) → to ≤ length bytes → length (slice_range bytes from to) ≡ to - from
part_len bytes from to inside = omega (arith, length-take {A = ℕ}, length-drop {A = ℕ})

pub first_words_are_unique : FirstWordsAreUnique
first_words_are_unique bytes line at word other inside after is also =
    let start : word.from ≡ other.from = word_starts bytes line at word inside after is ∙ sym (word_starts bytes line at other inside after also) in
    let same : slice_range bytes word.from word.to ≡ slice_range bytes other.from other.to = cc (is.cut, also.cut) in
    let long : length (slice_range bytes word.from word.to) ≡ length (slice_range bytes other.from other.to) = ap (λ (ys : List ℕ). length ys) same in
    let grows = is.some in
    let grows_too = also.some in
    let ends = is.within in
    let ends_too = also.within in
    let stop : word.to ≡ other.to = omega (arith, start, long, part_len bytes word.from word.to (omega arith), part_len bytes other.from other.to (omega arith)) in
    rw (start, stop) refl
