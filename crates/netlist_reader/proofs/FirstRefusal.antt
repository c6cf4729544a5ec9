-- A refused file is refused by its first refused line.
use Rattle.std.proofs.Common.{◌≡◌, ℕ, ◌+◌, List, [], ◌∷◌, ◌++◌, length, refl, subst, ◌∙◌, arith, length-append, append_assoc}
use Rattle.std.specs.Prelude.{Result, Ok, Err}
use Rattle.std.specs.Str.Lines.{lines}
use Rattle.cyc_text.specs.Words.{words_of}
use Rattle.cell_arcs.specs.declared.cells.Cell.{Cell}
use Rattle.netlist_model.specs.Circuit.{Circuit, nothing}
use Rattle.cell_arcs.specs.Steps.{◌>>=◌}
use Rattle.netlist_reader.specs.NetlistFiles.{after_words, after_lines}
use Rattle.netlist_reader.specs.RefusedLines.{IsRefusedLine, FirstLineRefuses}
use Rattle.netlist_reader.specs.declared.faults.NetFault.{NetFault}

-- lines behind others
after_lines-append : (library : List Cell) (n : ℕ) (xs ys : List (List ℕ)) (c : Circuit)
    → after_lines library n (xs ++ ys) c ≡ (after_lines library n xs c >>= after_lines library (n + length xs) ys)
unfolding after_lines
after_lines-append library n [] ys c = let same : n + length {A = List ℕ} [] ≡ n = omega arith in rw same refl
after_lines-append library n (x ∷ xs) ys c = by (after_lines-append library (n + 1) xs ys) (after_words library n (words_of x) c)
  where
    by : ((d : Circuit) → after_lines library (n + 1) (xs ++ ys) d ≡ (after_lines library (n + 1) xs d >>= after_lines library (n + 1 + length xs) ys))
        → (r : Result Circuit NetFault) → (r >>= after_lines library (n + 1) (xs ++ ys)) ≡ ((r >>= after_lines library (n + 1) xs) >>= after_lines library (n + length (x ∷ xs)) ys)
    by more (Ok d) =
        let same : n + 1 + length xs ≡ n + length (x ∷ xs) = omega arith in
        rw (← same) (more d)
    by more (Err e) = refl

-- one more line that is accepted
accepted_more : (library : List Cell) (before : List (List ℕ)) (line : List ℕ) (c d : Circuit)
    → after_lines library 1 before nothing ≡ Ok c → after_words library (length before + 1) (words_of line) c ≡ Ok d
    → after_lines library 1 (before ++ line ∷ []) nothing ≡ Ok d
unfolding after_lines
accepted_more library before line c d accepted next =
    let same : 1 + length before ≡ length before + 1 = omega arith in
    after_lines-append library 1 before (line ∷ []) nothing ∙ (rw (accepted, same, next) refl)

-- what is left of a file that is refused
refused_from : (library : List Cell) (before rest : List (List ℕ)) (c : Circuit) (e : NetFault)
    → after_lines library 1 before nothing ≡ Ok c → after_lines library (length before + 1) rest c ≡ Err e → IsRefusedLine library (before ++ rest) e
unfolding after_lines
refused_from library before [] c e accepted refused = absurd (cc)
refused_from library before (line ∷ more) c e accepted refused =
    by (λ d. refused_from library (before ++ line ∷ []) more d e) (after_words library (length before + 1) (words_of line) c) refl refused
  where
    by : ((d : Circuit) → after_lines library 1 (before ++ line ∷ []) nothing ≡ Ok d → after_lines library (length (before ++ line ∷ []) + 1) more d ≡ Err e
        → IsRefusedLine library ((before ++ line ∷ []) ++ more) e)
        → (r : Result Circuit NetFault) → after_words library (length before + 1) (words_of line) c ≡ r → (r >>= after_lines library (length before + 1 + 1) more) ≡ Err e
        → IsRefusedLine library (before ++ line ∷ more) e
    by further (Ok d) is left =
        let same : length before + 1 + 1 ≡ length (before ++ line ∷ []) + 1 = omega (arith, length-append before (line ∷ [])) in
        subst (λ written. IsRefusedLine library written e) (append_assoc before (line ∷ []) more)
        (further d (accepted_more library before line c d accepted is) (rw same at left))
    by further (Err f) is left = record { before = before; line = line; after = more; parts = refl; reached = c; accepted = accepted; refused = is ∙ left }

pub first_line_refuses : FirstLineRefuses
unfolding after_lines
first_line_refuses library bytes e refused = refused_from library [] (lines bytes) nothing e refl refused
