use Rattle.std.proofs.Common.{List, arith}
use Rattle.cell_arcs.specs.declared.cells.Cell.{Cell}
use Rattle.std.specs.Str.Lines.{lines}
use Rattle.netlist_model.specs.Circuit.{Circuit, nothing}
use Rattle.netlist_model.specs.Sound.{Fits, IsNetlist}
use Rattle.netlist_reader.proofs.SoundFiles.{after_lines_keeps, never_memory, never_statement}
use Rattle.netlist_reader.proofs.laws.netlists_are_sound.Goals as goal

-- what holds of every netlist, of one that fits the library
abbrev Fitting : List Cell → Circuit → Type 0
Fitting library c = IsNetlist c × Fits library c.insts

none_fits : (library : List Cell) → Fits library nothing.insts
none_fits library k d out = absurd (omega arith)

pub returns-clause-accepted : goal.returns-clause-accepted
returns-clause-accepted c = λ library bytes net h.
    (after_lines_keeps (Fitting library) library
    (λ x y e p made. (c.edits_keep_netlists.ensures.netlist library x y e p.0 p.1 made, c.edits_keep_netlists.ensures.fits library x y e p.1 made))
    1 (lines bytes) nothing net (c.edits_keep_netlists.ensures.nothing, none_fits library) h).0

pub returns-clause-fits : goal.returns-clause-fits
returns-clause-fits c = λ library bytes net h.
    after_lines_keeps (λ (n : Circuit). Fits library n.insts) library (c.edits_keep_netlists.ensures.fits library) 1 (lines bytes) nothing net (none_fits library) h

pub returns-clause-refused : goal.returns-clause-refused
returns-clause-refused c = λ library. never_memory library (c.edits_keep_netlists.ensures.refused library)

pub returns-clause-statements : goal.returns-clause-statements
returns-clause-statements c = λ library. never_statement library (c.edits_keep_netlists.ensures.refused library)
