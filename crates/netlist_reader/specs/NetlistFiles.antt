-- A netlist file: its lines in turn, each a statement.
use Rattle.std.specs.Prelude.{◌+◌, ◌==◌, ℕ, Bool, true, false, if◌then◌else◌, List, [], ◌∷◌, length, Option, Some, None, Result, Ok, Err}
use Rattle.std.specs.Str.Lines.{lines}
use Rattle.cyc_text.specs.Words.{words_of}
use Rattle.cell_arcs.specs.declared.cells.Cell.{Cell}
use Rattle.cell_arcs.specs.Steps.{◌>>=◌}
use Rattle.netlist_model.specs.Circuit.{Circuit, nothing}
use Rattle.netlist_model.specs.Edits.{made}
use Rattle.netlist_model.specs.Statements.{set_root}
use Rattle.netlist_model.specs.declared.edits.Edit.{Edit}
use Rattle.netlist_model.specs.declared.edits.Edit.TheVariants.{DelInst, DelNet, Move, Swap, Root, DelFork}
use Rattle.netlist_model.specs.declared.faults.StatementFault.{StatementFault}
use Rattle.netlist_reader.specs.EditLines.{edit_of}
use Rattle.netlist_reader.specs.declared.faults.NetFault.{NetFault}
use Rattle.netlist_reader.specs.declared.faults.NetFault.TheVariants.{Syntax, Statement}

-- whether a netlist file may say this: it adds, and takes nothing away
abbrev pub is_in_file : Edit → Bool
is_in_file (DelInst name) = false
is_in_file (DelNet name) = false
is_in_file (Move m) = false
is_in_file (Swap s) = false
is_in_file (DelFork name) = false
is_in_file e = true

-- the netlist after a file's statement, or why it is refused: as an edit, but a file has one root alone
abbrev pub stated : List Cell → Circuit → Edit → Result Circuit StatementFault
stated library c (Root event) = set_root c event false
stated library c e = made library c e

-- a statement's fault, with its line's number
abbrev pub at_line : ℕ → Result Circuit StatementFault → Result Circuit NetFault
at_line n (Ok c) = Ok c
at_line n (Err e) = Err (Statement n e)

-- the netlist after what line n says
abbrev pub after_edit : List Cell → ℕ → Option Edit → Circuit → Result Circuit NetFault
after_edit library n None c = Err (Syntax n)
after_edit library n (Some e) c = if is_in_file e then at_line n (stated library c e) else Err (Syntax n)

-- the netlist after line n of these words; a line without words is passed over
unfoldable pub after_words : List Cell → ℕ → List (List ℕ) → Circuit → Result Circuit NetFault
after_words library n words c = if length words == 0 then Ok c else after_edit library n (edit_of words) c

-- the netlist after the lines, the first of which has the number n
unfoldable pub after_lines : List Cell → ℕ → List (List ℕ) → Circuit → Result Circuit NetFault
after_lines library n [] c = Ok c
after_lines library n (line ∷ more) c = after_words library n (words_of line) c >>= after_lines library (n + 1) more

-- the netlist of a file's bytes over a library, or the first line that is refused
abbrev pub netlist_of : List Cell → List ℕ → Result Circuit NetFault
netlist_of library bytes = after_lines library 1 (lines bytes) nothing
