-- A text of lines, line by line.
use Rattle.std.proofs.Common.{◌≡◌, ℕ, ◌+◌, ◌≤◌, List, [], ◌∷◌, ◌++◌, length, map, drop, Some, refl, sym, ap, ◌∙◌, slice_get, append_assoc}
use Rattle.std.proofs.lemmas.Option.{get_or_from_slice_get, slice_get_within}
use Rattle.std.proofs.lemmas.List.{drop_more, drop_all, append-nil}
use Rattle.std.specs.List.{join_with_byte, flat_map}
use Rattle.cyc_text.specs.Written.{ended, line_text, lines_text}

-- a line as it is written word by word
line_text-is : (words : List (List ℕ)) → join_with_byte 32 words ++ 10 ∷ [] ≡ line_text words
line_text-is [] = refl
line_text-is (w ∷ ws) = by w ws
  where
    by : (w : List ℕ) (ws : List (List ℕ)) → join_with_byte 32 (w ∷ ws) ++ 10 ∷ [] ≡ w ++ ended ws
    by w [] = refl
    by w (v ∷ vs) = append_assoc w (32 ∷ join_with_byte 32 (v ∷ vs)) (10 ∷ []) ∙ ap (λ (xs : List ℕ). w ++ 32 ∷ xs) (by v vs)

-- a text is its first line and the text of the others
pub lines_text-cons : (words : List (List ℕ)) (lines : List (List (List ℕ))) → lines_text (words ∷ lines) ≡ line_text words ++ lines_text lines
unfolding lines_text
lines_text-cons words lines =
    sym (append_assoc (join_with_byte 32 words) (10 ∷ []) (lines_text lines)) ∙ ap (λ (xs : List ℕ). xs ++ lines_text lines) (line_text-is words)

pub lines_text-append : (one other : List (List (List ℕ))) → lines_text (one ++ other) ≡ lines_text one ++ lines_text other
unfolding lines_text
lines_text-append [] other = refl
lines_text-append (words ∷ one) other =
    ap (λ (xs : List ℕ). join_with_byte 32 words ++ 10 ∷ xs) (lines_text-append one other)
    ∙ sym (append_assoc (join_with_byte 32 words) (10 ∷ lines_text one) (lines_text other))

-- what is left of a list from a place on
pub drop_at_place : {A : Type 0} (xs : List A) (at : ℕ) (x : A) → slice_get xs at ≡ Some x → drop at xs ≡ x ∷ drop (at + 1) xs
drop_at_place xs at x h = drop_more xs at x (slice_get_within xs at x h) ∙ ap (λ (y : _). y ∷ drop (at + 1) xs) (get_or_from_slice_get xs at x x h)

-- one more line of a section is written
pub line_written : {A : Type 0} (f : A → List (List ℕ)) (xs : List A) (at : ℕ) (x : A) (old new whole : List ℕ) → slice_get xs at ≡ Some x → new ≡ old ++ line_text (f x)
    → old ++ lines_text (map f (drop at xs)) ≡ whole → new ++ lines_text (map f (drop (at + 1) xs)) ≡ whole
line_written f xs at x old new whole is put so_far =
    rw put (append_assoc old (line_text (f x)) (lines_text (map f (drop (at + 1) xs)))
    ∙ ap (λ (ys : List ℕ). old ++ ys) (sym (lines_text-cons (f x) (map f (drop (at + 1) xs))))
    ∙ ap (λ (ys : List _). old ++ lines_text (map f ys)) (sym (drop_at_place xs at x is))
    ∙ so_far)

-- a section whose lines are all written
pub all_written : {A : Type 0} (f : A → List (List ℕ)) (xs : List A) (at : ℕ) (text whole : List ℕ) → length xs ≤ at
    → text ++ lines_text (map f (drop at xs)) ≡ whole → text ≡ whole
unfolding lines_text
all_written f xs at text whole past so_far =
    sym (append-nil text) ∙ sym (ap (λ (ys : List _). text ++ lines_text (map f ys)) (drop_all at xs past)) ∙ so_far

-- the lines of one more item are written
pub block_written : {A : Type 0} (f : A → List (List (List ℕ))) (xs : List A) (at : ℕ) (x : A) (old new whole : List ℕ) → slice_get xs at ≡ Some x → new ≡ old ++ lines_text (f x)
    → old ++ lines_text (flat_map f (drop at xs)) ≡ whole → new ++ lines_text (flat_map f (drop (at + 1) xs)) ≡ whole
block_written f xs at x old new whole is put so_far =
    rw put (append_assoc old (lines_text (f x)) (lines_text (flat_map f (drop (at + 1) xs)))
    ∙ ap (λ (ys : List ℕ). old ++ ys) (sym (lines_text-append (f x) (flat_map f (drop (at + 1) xs))))
    ∙ ap (λ (ys : List _). old ++ lines_text (flat_map f ys)) (sym (drop_at_place xs at x is))
    ∙ so_far)

pub all_blocks_written : {A : Type 0} (f : A → List (List (List ℕ))) (xs : List A) (at : ℕ) (text whole : List ℕ) → length xs ≤ at
    → text ++ lines_text (flat_map f (drop at xs)) ≡ whole → text ≡ whole
unfolding lines_text
all_blocks_written f xs at text whole past so_far =
    sym (append-nil text) ∙ sym (ap (λ (ys : List _). text ++ lines_text (flat_map f ys)) (drop_all at xs past)) ∙ so_far

pub nothing_written : (text : List ℕ) → text ≡ text ++ lines_text []
unfolding lines_text
nothing_written text = sym (append-nil text)

pub one_written : (words : List (List ℕ)) (old new : List ℕ) → new ≡ old ++ line_text words → new ≡ old ++ lines_text (words ∷ [])
one_written words old new put =
    put ∙ ap (λ (ys : List ℕ). old ++ ys) (nothing_written (line_text words) ∙ sym (lines_text-cons words []))

-- one section behind the other
pub first_section : (lines : List (List (List ℕ))) (old new : List ℕ) → old ≡ [] → new ≡ old ++ lines_text lines → new ≡ lines_text lines
first_section lines old new none put = put ∙ ap (λ (xs : List ℕ). xs ++ lines_text lines) none

pub next_section : (one other : List (List (List ℕ))) (old new : List ℕ) → old ≡ lines_text one → new ≡ old ++ lines_text other → new ≡ lines_text (one ++ other)
next_section one other old new so_far put = put ∙ ap (λ (xs : List ℕ). xs ++ lines_text other) so_far ∙ sym (lines_text-append one other)
