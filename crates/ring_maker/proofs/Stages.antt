-- A text that grows stage by stage.
use Rattle.std.proofs.Common.{◌≡◌, ℕ, ◌+◌, ◌-◌, ◌<◌, ◌≤◌, suc, List, [], ◌∷◌, ◌++◌, map, refl, sym, ap, ◌∙◌, arith, append_assoc}
use Rattle.std.specs.List.{flat_map, range_with_len}
use Rattle.cyc_text.specs.Written.{line_text, lines_text}
use Rattle.cyc_text.proofs.WrittenLemmas.{lines_text-cons, lines_text-append, nothing_written}

-- the stages that are left, one of them first
one_left : (i count : ℕ) → i < count → range_with_len i (count - i) ≡ i ∷ range_with_len (i + 1) (count - (i + 1))
one_left i count more = let e : count - i ≡ suc (count - (i + 1)) = omega arith in rw e refl

none_left : (i count : ℕ) → count ≤ i → range_with_len i (count - i) ≡ []
none_left i count past = let e : count - i ≡ 0 = omega arith in rw e refl

-- the lines of one more stage are written
pub stage_written : (f : ℕ → List (List (List ℕ))) (i count : ℕ) (old new whole : List ℕ) → i < count → new ≡ old ++ lines_text (f i)
    → old ++ lines_text (flat_map f (range_with_len i (count - i))) ≡ whole → new ++ lines_text (flat_map f (range_with_len (i + 1) (count - (i + 1)))) ≡ whole
stage_written f i count old new whole more put so_far =
    let rest = flat_map f (range_with_len (i + 1) (count - (i + 1))) in
    rw put (append_assoc old (lines_text (f i)) (lines_text rest)
    ∙ ap (λ (ys : List ℕ). old ++ ys) (sym (lines_text-append (f i) rest))
    ∙ ap (λ (ys : List ℕ). old ++ lines_text (flat_map f ys)) (sym (one_left i count more))
    ∙ so_far)

pub all_stages_written : (f : ℕ → List (List (List ℕ))) (i count : ℕ) (text whole : List ℕ) → count ≤ i
    → text ++ lines_text (flat_map f (range_with_len i (count - i))) ≡ whole → text ≡ whole
all_stages_written f i count text whole past so_far =
    nothing_written text ∙ ap (λ (ys : List ℕ). text ++ lines_text (flat_map f ys)) (sym (none_left i count past)) ∙ so_far

-- the line of one more stage is written
pub line_of_stage_written : (f : ℕ → List (List ℕ)) (i count : ℕ) (old new whole : List ℕ) → i < count → new ≡ old ++ line_text (f i)
    → old ++ lines_text (map f (range_with_len i (count - i))) ≡ whole → new ++ lines_text (map f (range_with_len (i + 1) (count - (i + 1)))) ≡ whole
line_of_stage_written f i count old new whole more put so_far =
    let rest = map f (range_with_len (i + 1) (count - (i + 1))) in
    rw put (append_assoc old (line_text (f i)) (lines_text rest)
    ∙ ap (λ (ys : List ℕ). old ++ ys) (sym (lines_text-cons (f i) rest))
    ∙ ap (λ (ys : List ℕ). old ++ lines_text (map f ys)) (sym (one_left i count more))
    ∙ so_far)

pub all_lines_written : (f : ℕ → List (List ℕ)) (i count : ℕ) (text whole : List ℕ) → count ≤ i
    → text ++ lines_text (map f (range_with_len i (count - i))) ≡ whole → text ≡ whole
all_lines_written f i count text whole past so_far =
    nothing_written text ∙ ap (λ (ys : List ℕ). text ++ lines_text (map f ys)) (sym (none_left i count past)) ∙ so_far

-- two lines, one after the other
pub two_lines_written : (one other : List (List ℕ)) (old between new : List ℕ) → between ≡ old ++ line_text one → new ≡ between ++ line_text other
    → new ≡ old ++ lines_text (one ∷ other ∷ [])
two_lines_written one other old between new first second =
    second ∙ ap (λ (ys : List ℕ). ys ++ line_text other) first ∙ append_assoc old (line_text one) (line_text other)
    ∙ ap (λ (ys : List ℕ). old ++ (line_text one ++ ys)) (nothing_written (line_text other) ∙ sym (lines_text-cons other []))
    ∙ ap (λ (ys : List ℕ). old ++ ys) (sym (lines_text-cons one (other ∷ [])))
