-- Files of edits: what they say, their first refused line, and netlist files read as edits.
use Rattle.std.proofs.Common.{◌≡◌, ◌≢◌, ◌⊎◌, inl, inr, ℕ, ◌+◌, ◌==◌, not, List, [], ◌∷◌, ◌++◌, length, map, filter, Bool, true, false, Option, Some, None, is_some, refl, sym, ap, subst, ◌∙◌, arith, All, length-append, append_assoc, if◌then◌else◌}
use Rattle.std.specs.Prelude.{Result, Ok, Err}
use Rattle.std.specs.Str.Lines.{lines}
use Rattle.std.proofs.lemmas.List.{append-nil, map-append}
use Rattle.std.proofs.lemmas.List.Elements.{All-nil, All-push}
use Rattle.cyc_text.specs.Words.{words_of}
use Rattle.cell_arcs.specs.Steps.{◌>>=◌}
use Rattle.cell_arcs.specs.IsLibrary.{IsLibrary}
use Rattle.cell_arcs.specs.declared.cells.Cell.{Cell}
use Rattle.netlist_model.specs.Circuit.{Circuit, nothing}
use Rattle.netlist_model.specs.Edits.{made, at_edit, edited_from, edited}
use Rattle.netlist_model.specs.Sound.{Fits, IsNetlist}
use Rattle.netlist_model.specs.declared.edits.Edit.{Edit}
use Rattle.netlist_model.specs.declared.edits.Edit.TheVariants as edit
use Rattle.netlist_model.specs.declared.faults.StatementFault.{StatementFault}
use Rattle.netlist_reader.specs.Canonical.{canonical_text}
use Rattle.netlist_reader.specs.EditFiles.{with_edit, with_words, edits_from, edits_of, has_words, worded, AreEdits, IsFirstOther, Edited}
use Rattle.netlist_reader.specs.EditLines.{edit_of}
use Rattle.netlist_reader.specs.NetlistFiles.{is_in_file, stated, at_line, after_edit, after_words, after_lines, netlist_of}
use Rattle.netlist_reader.specs.ReadBack.{NetlistsReadBack}
use Rattle.netlist_reader.specs.declared.faults.EditsFault.{EditsFault}
use Rattle.netlist_reader.specs.declared.faults.EditsFault.TheVariants.{Syntax, Memory}
use Rattle.netlist_reader.specs.declared.faults.NetFault.TheVariants as net
use Rattle.netlist_reader.proofs.SoundFiles.{bind_ok, root_again}

-- ---- what a line may say

-- a line is passed over, or says an edit, or is no edit line
data Line (n : ℕ) (before : List Edit) (words : List (List ℕ)) : Type 0 where
  passed : has_words words ≡ false → with_words n before words ≡ Ok before → Line n before words
  says : (e : Edit) → has_words words ≡ true → edit_of words ≡ Some e → with_words n before words ≡ Ok (before ++ e ∷ []) → Line n before words
  refused : has_words words ≡ true → edit_of words ≡ None → with_words n before words ≡ Err (Syntax n) → Line n before words

line_is : (n : ℕ) (before : List Edit) (words : List (List ℕ)) → Line n before words
unfolding with_words
line_is n before words = by (length words == 0) refl (edit_of words) refl
  where
    by : (b : Bool) → (length words == 0) ≡ b → (o : Option Edit) → edit_of words ≡ o → Line n before words
    by true e o f = passed (rw e refl) (rw e refl)
    by false e None f = refused (rw e refl) f (rw (e, f) refl)
    by false e (Some x) f = says x (rw e refl) f (rw (e, f) refl)

-- ---- what the file says

worded_passed : (line : List ℕ) (more : List (List ℕ)) → has_words (words_of line) ≡ false → worded (line ∷ more) ≡ worded more
worded_passed line more e = rw e refl

worded_said : (line : List ℕ) (more : List (List ℕ)) → has_words (words_of line) ≡ true → worded (line ∷ more) ≡ words_of line ∷ worded more
worded_said line more e = rw e refl

said_from : (n : ℕ) (before : List Edit) (written : List (List ℕ)) (all : List Edit) → edits_from n before written ≡ Ok all
    → map (λ e. Some e) before ++ map edit_of (worded written) ≡ map (λ e. Some e) all
unfolding edits_from
said_from n before [] all h = append-nil (map (λ e. Some e) before) ∙ ap (map (λ e. Some e)) (let same : before ≡ all = cc in same)
said_from n before (line ∷ more) all h = by (line_is n before (words_of line)) (λ edits. said_from (n + 1) edits more all)
  where
    by : Line n before (words_of line) → ((edits : List Edit) → edits_from (n + 1) edits more ≡ Ok all → map (λ e. Some e) edits ++ map edit_of (worded more) ≡ map (λ e. Some e) all)
        → map (λ e. Some e) before ++ map edit_of (worded (line ∷ more)) ≡ map (λ e. Some e) all
    by (passed none is) rest = rw (worded_passed line more none) (rest before (rw is at h))
    by (says e some said is) rest =
        rw (worded_said line more some, said)
        (sym (append_assoc (map (λ e. Some e) before) (Some e ∷ []) (map edit_of (worded more))) ∙ rw (sym (map-append (λ (x : Edit). Some x) before (e ∷ []))) (rest (before ++ e ∷ []) (rw is at h)))
    by (refused some none is) rest = let bad : Err (Syntax n) ≡ Ok all = rw is at h in cc

pub files_say : (bytes : List ℕ) (said : List Edit) → edits_of bytes ≡ Ok said → map edit_of (worded (lines bytes)) ≡ map (λ e. Some e) said
files_say bytes said h = said_from 1 [] (lines bytes) said h

-- ---- the first line that is no edit line

worded_push : (before : List (List ℕ)) (line : List ℕ) → worded (before ++ line ∷ []) ≡ worded before ++ worded (line ∷ [])
worded_push [] line = refl
worded_push (x ∷ xs) line = by (has_words (words_of x)) refl (worded_push xs line)
  where
    by : (b : Bool) → has_words (words_of x) ≡ b → worded (xs ++ line ∷ []) ≡ worded xs ++ worded (line ∷ []) → worded (x ∷ (xs ++ line ∷ [])) ≡ worded (x ∷ xs) ++ worded (line ∷ [])
    by true e rest = rw (worded_said x (xs ++ line ∷ []) e, worded_said x xs e) (ap (λ ws. words_of x ∷ ws) rest)
    by false e rest = rw (worded_passed x (xs ++ line ∷ []) e, worded_passed x xs e) rest

accepted_passed : (before : List (List ℕ)) (line : List ℕ) → AreEdits before → has_words (words_of line) ≡ false → AreEdits (before ++ line ∷ [])
accepted_passed before line h none =
    subst (All (λ words. is_some (edit_of words) ≡ true)) (sym (worded_push before line ∙ (rw (worded_passed line [] none) (append-nil (worded before))))) h

accepted_said : (before : List (List ℕ)) (line : List ℕ) (e : Edit) → AreEdits before → has_words (words_of line) ≡ true → edit_of (words_of line) ≡ Some e → AreEdits (before ++ line ∷ [])
accepted_said before line e h some said =
    subst (All (λ words. is_some (edit_of words) ≡ true)) (sym (worded_push before line ∙ ap (λ ws. worded before ++ ws) (worded_said line [] some)))
    (All-push (λ words. is_some (edit_of words) ≡ true) (worded before) (words_of line) h (rw said refl))

first_from : (edits : List Edit) (before rest : List (List ℕ)) (n : ℕ) → AreEdits before → edits_from (length before + 1) edits rest ≡ Err (Syntax n) → IsFirstOther (before ++ rest) n
unfolding edits_from
first_from edits before [] n good h = absurd (cc)
first_from edits before (line ∷ more) n good h = by (line_is (length before + 1) edits (words_of line)) (λ es. first_from es (before ++ line ∷ []) more n)
  where
    next : length before + 1 + 1 ≡ length (before ++ line ∷ []) + 1
    next = omega (arith, length-append before (line ∷ []))

    further : (es : List Edit) → ((es : List Edit) → AreEdits (before ++ line ∷ []) → edits_from (length (before ++ line ∷ []) + 1) es more ≡ Err (Syntax n) → IsFirstOther ((before ++ line ∷ []) ++ more) n)
        → AreEdits (before ++ line ∷ []) → edits_from (length before + 1 + 1) es more ≡ Err (Syntax n) → IsFirstOther (before ++ line ∷ more) n
    further es rest known left = subst (λ written. IsFirstOther written n) (append_assoc before (line ∷ []) more) (rest es known (rw next at left))

    by : Line (length before + 1) edits (words_of line) → ((es : List Edit) → AreEdits (before ++ line ∷ []) → edits_from (length (before ++ line ∷ []) + 1) es more ≡ Err (Syntax n) → IsFirstOther ((before ++ line ∷ []) ++ more) n)
        → IsFirstOther (before ++ line ∷ more) n
    by (passed none is) rest = further edits rest (accepted_passed before line good none) (rw is at h)
    by (says e some said is) rest = further (edits ++ e ∷ []) rest (accepted_said before line e good some said) (rw is at h)
    by (refused some none is) rest =
        let told : Err (Syntax (length before + 1)) ≡ Err (Syntax n) = rw is at h in
        let number : length before + 1 ≡ n = cc in
        record { before = before; line = line; after = more; parts = refl; number = sym number; accepted = good; worded = some; refused = none }

pub first_told : (bytes : List ℕ) (n : ℕ) → edits_of bytes ≡ Err (Syntax n) → IsFirstOther (lines bytes) n
first_told bytes n h = first_from [] [] (lines bytes) n (All-nil (λ words. is_some (edit_of words) ≡ true)) h

not_memory : (n : ℕ) (before : List Edit) (written : List (List ℕ)) → edits_from n before written ≢ Err Memory
unfolding edits_from
not_memory n before [] h = cc
not_memory n before (line ∷ more) h = by (line_is n before (words_of line)) (λ edits. not_memory (n + 1) edits more)
  where
    by : Line n before (words_of line) → ((edits : List Edit) → edits_from (n + 1) edits more ≢ Err Memory) → ⊥
    by (passed none is) rest = rest before (rw is at h)
    by (says e some said is) rest = rest (before ++ e ∷ []) (rw is at h)
    by (refused some none is) rest = let bad : Err (Syntax n) ≡ Err Memory = rw is at h in cc

pub never_memory : (bytes : List ℕ) → edits_of bytes ≢ Err Memory
never_memory bytes = not_memory 1 [] (lines bytes)

-- ---- netlist files as edits

stated_made : (library : List Cell) (c d : Circuit) (e : Edit) → stated library c e ≡ Ok d → made library c e ≡ Ok d
stated_made library c d (edit.Root event) h = root_again c d event h
stated_made library c d e h = h

at_line_ok : (n : ℕ) (r : Result Circuit StatementFault) (d : Circuit) → at_line n r ≡ Ok d → r ≡ Ok d
at_line_ok n (Ok c) d h = ap Ok (let same : c ≡ d = cc in same)
at_line_ok n (Err e) d h = cc

-- an accepted line of a file that has words says an edit, which makes the next netlist
edit_made : (library : List Cell) (n : ℕ) (o : Option Edit) (c d : Circuit) → after_edit library n o c ≡ Ok d → (e : Edit) × (o ≡ Some e) × (made library c e ≡ Ok d)
edit_made library n None c d h = cc
edit_made library n (Some e) c d h = by (is_in_file e) h
  where
    by : (b : Bool) → (if b then at_line n (stated library c e) else Err (net.Syntax n)) ≡ Ok d → (x : Edit) × (Some e ≡ Some x) × (made library c x ≡ Ok d)
    by true f = (e, refl, stated_made library c d e (at_line_ok n (stated library c e) d f))
    by false f = cc

-- edits that the lines say, and that make the one netlist the other
record Made (library : List Cell) (written : List (List ℕ)) (c d : Circuit) : Type 0 where
  edits : List Edit
  said : (n : ℕ) (before : List Edit) → edits_from n before written ≡ Ok (before ++ edits)
  makes : (n : ℕ) → edited_from library n edits c ≡ Ok d

after_line : (library : List Cell) (n : ℕ) (line : List ℕ) (c d : Circuit) → after_words library n (words_of line) c ≡ Ok d
    → ((has_words (words_of line) ≡ false) × (c ≡ d)) ⊎ ((has_words (words_of line) ≡ true) × ((e : Edit) × (edit_of (words_of line) ≡ Some e) × (made library c e ≡ Ok d)))
unfolding after_words
after_line library n line c d h = by (length (words_of line) == 0) refl h
  where
    by : (b : Bool) → (length (words_of line) == 0) ≡ b → (if b then Ok c else after_edit library n (edit_of (words_of line)) c) ≡ Ok d
        → ((has_words (words_of line) ≡ false) × (c ≡ d)) ⊎ ((has_words (words_of line) ≡ true) × ((e : Edit) × (edit_of (words_of line) ≡ Some e) × (made library c e ≡ Ok d)))
    by true e f = inl (rw e refl, (let same : c ≡ d = cc in same))
    by false e f = inr (rw e refl, edit_made library n (edit_of (words_of line)) c d f)

with_passed : (n : ℕ) (before : List Edit) (words : List (List ℕ)) → has_words words ≡ false → with_words n before words ≡ Ok before
unfolding with_words
with_passed n before words h = by (length words == 0) refl h
  where
    by : (b : Bool) → (length words == 0) ≡ b → not b ≡ false → with_words n before words ≡ Ok before
    by true e f = rw e refl
    by false e f = cc

with_said : (n : ℕ) (before : List Edit) (words : List (List ℕ)) (e : Edit) → has_words words ≡ true → edit_of words ≡ Some e → with_words n before words ≡ Ok (before ++ e ∷ [])
unfolding with_words
with_said n before words e h said = by (length words == 0) refl h
  where
    by : (b : Bool) → (length words == 0) ≡ b → not b ≡ true → with_words n before words ≡ Ok (before ++ e ∷ [])
    by true f g = cc
    by false f g = rw (f, said) refl

made_from : (library : List Cell) (n : ℕ) (written : List (List ℕ)) (c d : Circuit) → after_lines library n written c ≡ Ok d → Made library written c d
unfolding after_lines edits_from edited_from
made_from library n [] c d h = record { edits = []; said = λ n before. ap Ok (sym (append-nil before)); makes = λ n. ap Ok (let same : c ≡ d = cc in same) }
made_from library n (line ∷ more) c d h =
    let (next, is, left) = bind_ok (after_words library n (words_of line) c) (after_lines library (n + 1) more) d h in
    by next (made_from library (n + 1) more next d left) (after_line library n line c next is)
  where
    by : (next : Circuit) → Made library more next d
        → ((has_words (words_of line) ≡ false) × (c ≡ next)) ⊎ ((has_words (words_of line) ≡ true) × ((e : Edit) × (edit_of (words_of line) ≡ Some e) × (made library c e ≡ Ok next)))
        → Made library (line ∷ more) c d
    by next rest (inl p) = record {
      edits = rest.edits;
      said = λ n before. rw (with_passed n before (words_of line) p.0) (rest.said (n + 1) before);
      makes = λ n. rw p.1 (rest.makes n);
    }
    by next rest (inr p) =
        let e = p.1.0 in
        record {
          edits = e ∷ rest.edits;
          said = λ n before. rw (with_said n before (words_of line) e p.0 p.1.1) (rest.said (n + 1) (before ++ e ∷ []) ∙ ap Ok (append_assoc before (e ∷ []) rest.edits));
          makes = λ n. rw p.1.2 (rest.makes (n + 1));
        }

pub file_edited : (library : List Cell) (bytes : List ℕ) (c : Circuit) → netlist_of library bytes ≡ Ok c → Edited library bytes c
file_edited library bytes c h =
    let m = made_from library 1 (lines bytes) nothing c h in
    record { edits = m.edits; said = m.said 1 []; made = m.makes 1 }

pub written_edited : NetlistsReadBack → (library : List Cell) (c : Circuit) → IsLibrary library → IsNetlist c → Fits library c.insts → Edited library (canonical_text library c) c
written_edited back library c sound s fits = file_edited library (canonical_text library c) c (back library c sound s fits)
