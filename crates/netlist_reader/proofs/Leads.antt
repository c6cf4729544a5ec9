-- How lines lead from one netlist to another.
use Rattle.std.proofs.Common.{◌≡◌, ℕ, true, false, ◌+◌, List, [], ◌∷◌, ◌++◌, length, map, Some, None, Ok, refl, sym, ap, subst, arith, All}
use Rattle.std.specs.Prelude.{◌==◌}
use Rattle.std.specs.List.{join_with_byte}
use Rattle.std.proofs.lemmas.Bool.Decides.{nat_tests}
use Rattle.std.proofs.lemmas.List.Elements.{All-nil, All-cons}
use Rattle.cyc_text.specs.ReadBack.{IsWord, IsLine, WordsReadBack, LinesReadBack}
use Rattle.cell_arcs.specs.declared.cells.Cell.{Cell}
use Rattle.netlist_model.specs.Circuit.{Circuit, nothing}
use Rattle.netlist_model.specs.declared.edits.Edit.{Edit}
use Rattle.cyc_text.specs.Written.{lines_text}
use Rattle.netlist_reader.specs.EditLines.{edit_of}
use Rattle.netlist_reader.specs.NetlistFiles.{after_words, after_lines, is_in_file, stated, netlist_of}
use Rattle.netlist_reader.proofs.Bytes.{EachSolid, solid_word, solid_line}

-- a line's statement makes the one netlist the other
pub record IsStep (library : List Cell) (words : List (List ℕ)) (c d : Circuit) : Type 0 where
  pub edit : Edit
  pub says : edit_of words ≡ Some edit
  pub allowed : is_in_file edit ≡ true
  pub does : stated library c edit ≡ Ok d
  pub solid : EachSolid words

-- the lines make the one netlist the other
abbrev pub Leads : List Cell → List (List (List ℕ)) → Circuit → Circuit → Type 0
Leads library [] c d = c ≡ d
Leads library (words ∷ more) c d = (b : Circuit) × IsStep library words c b × Leads library more b d

pub leads_append : (library : List Cell) (one other : List (List (List ℕ))) (c m d : Circuit) → Leads library one c m → Leads library other m d → Leads library (one ++ other) c d
leads_append library [] other c m d h k = subst (λ (x : Circuit). Leads library other x d) (sym h) k
leads_append library (w ∷ ws) other c m d h k = (h.0, h.1, leads_append library ws other h.0 m d h.2 k)

no_edit : (e : Edit) → edit_of [] ≡ Some e → ⊥
unfolding edit_of
no_edit e h = let same : None ≡ Some e = h in cc

step_taken : (library : List Cell) (n : ℕ) (words : List (List ℕ)) (c d : Circuit) (e : Edit) → edit_of words ≡ Some e → is_in_file e ≡ true → stated library c e ≡ Ok d → after_words library n words c ≡ Ok d
unfolding after_words
step_taken library n [] c d e says allowed does = absurd (no_edit e says)
step_taken library n (w ∷ ws) c d e says allowed does =
    let some : (length (w ∷ ws) == 0) ≡ false = grind (arith, nat_tests) in
    rw (some, says, allowed, does) refl

all_words : (words : List (List ℕ)) → EachSolid words → All IsWord words
all_words [] h = All-nil IsWord
all_words (w ∷ ws) h = All-cons IsWord w ws (solid_word w h.0) (all_words ws h.1)

read_on : (back : WordsReadBack) (library : List Cell) (written : List (List (List ℕ))) (n : ℕ) (c d : Circuit) → Leads library written c d → after_lines library n (map (join_with_byte 32) written) c ≡ Ok d
unfolding after_lines
read_on back library [] n c d h = ap Ok h
read_on back library (w ∷ ws) n c d h =
    rw (back w (all_words w h.1.solid), step_taken library n w c h.0 h.1.edit h.1.says h.1.allowed h.1.does) (read_on back library ws (n + 1) h.0 d h.2)

all_lines : (library : List Cell) (written : List (List (List ℕ))) (c d : Circuit) → Leads library written c d → All IsLine (map (join_with_byte 32) written)
all_lines library [] c d h = All-nil IsLine
all_lines library (w ∷ ws) c d h = All-cons IsLine (join_with_byte 32 w) (map (join_with_byte 32) ws) (solid_line w h.1.solid) (all_lines library ws h.0 d h.2)

-- lines that lead from nothing to a netlist are the text of that netlist
pub leads_read : WordsReadBack → LinesReadBack → (library : List Cell) (written : List (List (List ℕ))) (c : Circuit) → Leads library written nothing c → netlist_of library (lines_text written) ≡ Ok c
unfolding lines_text
leads_read words_back lines_back library written c h =
    rw (lines_back (map (join_with_byte 32) written) (all_lines library written nothing c h)) (read_on words_back library written 1 nothing c h)
