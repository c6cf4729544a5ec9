-- The first line of a text from a place on is one span.
use Rattle.std.proofs.Common.{◌≡◌, ℕ, ◌+◌, ◌-◌, ◌<◌, ◌≤◌, ◌⊎◌, List, length, get_or, drop, refl, ap, sym, ◌∙◌, arith, inl, inr}
use Rattle.std.proofs.lemmas.List.{get_or-take, get_or-drop}
use Rattle.std.specs.List.{slice_range}
use Rattle.cyc_text.specs.declared.spans.LineSpan.{LineSpan}
use Rattle.cyc_text.specs.Spans.{LineEnds, FirstLinesAreUnique}
use Rattle.cyc_text.proofs.FirstWordLemmas.{part_len}

-- the first byte of a part of the text
part_first : (bytes : List ℕ) (from to : ℕ) → from < to → get_or (slice_range bytes from to) 0 0 ≡ get_or bytes from 0
part_first bytes from to some =
    let there : from + 0 ≡ from = omega arith in
    get_or-take (to - from) (drop from bytes) 0 0 (omega arith) ∙ (get_or-drop from bytes 0 0 ∙ ap (λ n. get_or bytes n 0) there)

-- how far the next line is, and the byte that tells it
abbrev EndsAt : List ℕ → LineSpan → Type 0
EndsAt bytes line =
    ((line.next ≡ line.to + 2) × (get_or bytes line.to 0 ≡ 13))
    ⊎ (((line.next ≡ line.to + 1) × (get_or bytes line.to 0 ≡ 10)) ⊎ ((line.to ≡ length bytes) × (line.next ≡ length bytes)))

ends_at : (bytes : List ℕ) (line : LineSpan) → line.to ≤ line.next → line.next ≤ length bytes → LineEnds bytes line → EndsAt bytes line
ends_at bytes line grows within (inl returned) =
    let long : length (slice_range bytes line.to line.next) ≡ 2 = ap (λ (ys : List ℕ). length ys) returned in
    let next : line.next ≡ line.to + 2 = omega (arith, long, part_len bytes line.to line.next within) in
    inl (next, sym (part_first bytes line.to line.next (omega arith)) ∙ ap (λ (ys : List ℕ). get_or ys 0 0) returned)
ends_at bytes line grows within (inr (inl fed)) =
    let long : length (slice_range bytes line.to line.next) ≡ 1 = ap (λ (ys : List ℕ). length ys) fed.feed in
    let next : line.next ≡ line.to + 1 = omega (arith, long, part_len bytes line.to line.next within) in
    inr (inl (next, sym (part_first bytes line.to line.next (omega arith)) ∙ ap (λ (ys : List ℕ). get_or ys 0 0) fed.feed))
ends_at bytes line grows within (inr (inr ended)) = inr (inr (ended.at_end, ended.no_more))

-- lines that end at one place have one next line
same_next : (bytes : List ℕ) (line other : LineSpan) → line.to ≡ other.to → line.next ≤ length bytes → other.next ≤ length bytes → EndsAt bytes line → EndsAt bytes other → line.next ≡ other.next
same_next bytes line other same within within_too (inl a) (inl b) = omega (arith, same, a.0, b.0)
same_next bytes line other same within within_too (inl a) (inr (inl b)) = absurd (omega (arith, a.1, b.1, ap (λ n. get_or bytes n 0) same))
same_next bytes line other same within within_too (inl a) (inr (inr b)) = absurd (omega (arith, same, a.0, b.0, within))
same_next bytes line other same within within_too (inr (inl a)) (inl b) = absurd (omega (arith, a.1, b.1, ap (λ n. get_or bytes n 0) same))
same_next bytes line other same within within_too (inr (inl a)) (inr (inl b)) = omega (arith, same, a.0, b.0)
same_next bytes line other same within within_too (inr (inl a)) (inr (inr b)) = absurd (omega (arith, same, a.0, b.0, within))
same_next bytes line other same within within_too (inr (inr a)) (inl b) = absurd (omega (arith, same, a.0, b.0, within_too))
same_next bytes line other same within within_too (inr (inr a)) (inr (inl b)) = absurd (omega (arith, same, a.0, b.0, within_too))
same_next bytes line other same within within_too (inr (inr a)) (inr (inr b)) = a.1 ∙ sym b.1

pub first_lines_are_unique : FirstLinesAreUnique
first_lines_are_unique bytes at line other is also =
    let starts = is.starts in
    let starts_too = also.starts in
    let grows = is.grows in
    let grows_too = also.grows in
    let ends = is.ends in
    let ends_too = also.ends in
    let within = is.within in
    let within_too = also.within in
    let start : line.from ≡ other.from = starts ∙ sym starts_too in
    let same : slice_range bytes line.from line.to ≡ slice_range bytes other.from other.to = cc (is.cut, also.cut) in
    let long : length (slice_range bytes line.from line.to) ≡ length (slice_range bytes other.from other.to) = ap (λ (ys : List ℕ). length ys) same in
    let stop : line.to ≡ other.to = omega (arith, start, long, part_len bytes line.from line.to (omega arith), part_len bytes other.from other.to (omega arith)) in
    let next : line.next ≡ other.next =
    same_next bytes line other stop within within_too (ends_at bytes line ends within is.ended) (ends_at bytes other ends_too within_too also.ended) in
    rw (start, stop, next) refl
