-- Lines as they are written one after the other.
use Rattle.std.proofs.Common.{◌≡◌, ℕ, ◌+◌, ◌<◌, ℤ, pos, List, ◌∷◌, ◌++◌, length, drop, get_or, Some, refl, sym, ap, ◌∙◌, slice_get, append_assoc}
use Rattle.std.proofs.lemmas.List.{drop_more}
use Rattle.std.proofs.lemmas.Option.{slice_get_within, get_or_from_slice_get}
use Rattle.netlist_model.specs.EventNames.{name_at}
use Rattle.netlist_model.specs.declared.parts.Fork.{Fork}
use Rattle.report_writer.specs.Report.{fork_line, fork_lines}

-- the name that stands at a place
pub name_stands : (names : List (List ℕ)) (at : ℕ) (name : List ℕ) → slice_get names at ≡ Some name → name_at names at ≡ name
name_stands names at name h = rw h refl

-- what is left of a list from a place on
left_from : {A : Type 0} (xs : List A) (at : ℕ) (x : A) → slice_get xs at ≡ Some x → drop at xs ≡ x ∷ drop (at + 1) xs
left_from xs at x h = drop_more xs at x (slice_get_within xs at x h) ∙ ap (λ (y : _). y ∷ drop (at + 1) xs) (get_or_from_slice_get xs at x x h)

-- one more fork's line is written
pub fork_written : (bottom : ℕ) (forks : List Fork) (slacks : List ℤ) (at : ℕ) (f : Fork) (old new whole : List ℕ) → slice_get forks at ≡ Some f → at < length slacks
    → new ≡ old ++ fork_line bottom f.name (get_or slacks at (pos 0))
    → old ++ fork_lines bottom (drop at forks) (drop at slacks) ≡ whole
    → new ++ fork_lines bottom (drop (at + 1) forks) (drop (at + 1) slacks) ≡ whole
unfolding fork_lines
fork_written bottom forks slacks at f old new whole is within put so_far =
    rw put (append_assoc old (fork_line bottom f.name (get_or slacks at (pos 0))) (fork_lines bottom (drop (at + 1) forks) (drop (at + 1) slacks))
    ∙ ap (λ (ys : List ℕ). old ++ ys) (sym (rw (left_from forks at f is, drop_more slacks at (pos 0) within) refl))
    ∙ so_far)
