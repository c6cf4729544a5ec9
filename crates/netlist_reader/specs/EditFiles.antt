-- A file of edits: each line with a word is one.
use Rattle.std.specs.Prelude.{◌≡◌, ◌+◌, ◌==◌, ℕ, Bool, true, not, if◌then◌else◌, List, [], ◌∷◌, ◌++◌, length, map, filter, Option, Some, None, is_some, Result, Ok, Err, All}
use Rattle.std.specs.Str.Lines.{lines}
use Rattle.cyc_text.specs.Words.{words_of}
use Rattle.cell_arcs.specs.Steps.{◌>>=◌}
use Rattle.cell_arcs.specs.IsLibrary.{IsLibrary}
use Rattle.cell_arcs.specs.declared.cells.Cell.{Cell}
use Rattle.netlist_model.specs.Circuit.{Circuit, nothing}
use Rattle.netlist_model.specs.Edits.{edited}
use Rattle.netlist_model.specs.Sound.{Fits, IsNetlist}
use Rattle.netlist_model.specs.declared.edits.Edit.{Edit}
use Rattle.netlist_reader.specs.Canonical.{canonical_text}
use Rattle.netlist_reader.specs.EditLines.{edit_of}
use Rattle.netlist_reader.specs.NetlistFiles.{netlist_of}
use Rattle.netlist_reader.specs.declared.faults.EditsFault.{EditsFault}
use Rattle.netlist_reader.specs.declared.faults.EditsFault.TheVariants.{Syntax}

-- the edits with what line n says behind them
abbrev pub with_edit : ℕ → List Edit → Option Edit → Result (List Edit) EditsFault
with_edit n before None = Err (Syntax n)
with_edit n before (Some e) = Ok (before ++ e ∷ [])

-- the edits with those of line n of these words; a line without words is passed over
unfoldable pub with_words : ℕ → List Edit → List (List ℕ) → Result (List Edit) EditsFault
with_words n before words = if length words == 0 then Ok before else with_edit n before (edit_of words)

-- the edits of the lines behind those before, or the first line that is none; the first of the lines has the number n
unfoldable pub edits_from : ℕ → List Edit → List (List ℕ) → Result (List Edit) EditsFault
edits_from n before [] = Ok before
edits_from n before (line ∷ more) = with_words n before (words_of line) >>= (λ edits. edits_from (n + 1) edits more)

-- the edits of a file's bytes, or the first line that is no edit line
abbrev pub edits_of : List ℕ → Result (List Edit) EditsFault
edits_of bytes = edits_from 1 [] (lines bytes)

-- ---- what an answer means

-- whether there is a word
abbrev pub has_words : List (List ℕ) → Bool
has_words words = not (length words == 0)

-- the words of the lines that have any
abbrev pub worded : List (List ℕ) → List (List (List ℕ))
worded written = filter has_words (map words_of written)

-- each line with a word says an edit
abbrev pub AreEdits : List (List ℕ) → Type 0
AreEdits written = All (λ words. is_some (edit_of words) ≡ true) (worded written)

-- one of the lines has a word and is no edit line, and those before it are edit lines or have no word; lines count from 1
pub record IsFirstOther (written : List (List ℕ)) (n : ℕ) : Type 0 where
  pub before : List (List ℕ)
  pub line : List ℕ
  pub after : List (List ℕ)
  pub parts : written ≡ before ++ line ∷ after
  pub number : n ≡ length before + 1
  pub accepted : AreEdits before
  pub worded : has_words (words_of line) ≡ true
  pub refused : edit_of (words_of line) ≡ None

-- a list of edits that a text says, and that makes a netlist of nothing
pub record Edited (library : List Cell) (bytes : List ℕ) (c : Circuit) : Type 0 where
  pub edits : List Edit
  pub said : edits_of bytes ≡ Ok edits
  pub made : edited library edits nothing ≡ Ok c
