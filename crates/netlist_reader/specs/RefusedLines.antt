-- The line that refuses a file.
use Rattle.std.specs.Prelude.{◌≡◌, ◌+◌, ℕ, List, ◌∷◌, ◌++◌, length, Ok, Err}
use Rattle.std.specs.Str.Lines.{lines}
use Rattle.cyc_text.specs.Words.{words_of}
use Rattle.cell_arcs.specs.declared.cells.Cell.{Cell}
use Rattle.netlist_model.specs.Circuit.{Circuit, nothing}
use Rattle.netlist_reader.specs.NetlistFiles.{after_words, after_lines, netlist_of}
use Rattle.netlist_reader.specs.declared.faults.NetFault.{NetFault}

-- one of the lines is refused, and those before it are not
pub record IsRefusedLine (library : List Cell) (written : List (List ℕ)) (e : NetFault) : Type 0 where
  pub before : List (List ℕ)
  pub line : List ℕ
  pub after : List (List ℕ)
  pub parts : written ≡ before ++ line ∷ after
  -- the netlist after the lines before it
  pub reached : Circuit
  pub accepted : after_lines library 1 before nothing ≡ Ok reached
  -- lines are numbered from 1
  pub refused : after_words library (length before + 1) (words_of line) reached ≡ Err e

-- a refused file is refused by its first refused line
abbrev pub FirstLineRefuses : Type 0
FirstLineRefuses = (library : List Cell) (bytes : List ℕ) (e : NetFault) → netlist_of library bytes ≡ Err e → IsRefusedLine library (lines bytes) e
