use Rattle.std.proofs.Common.{List}
use Rattle.cell_arcs.specs.declared.cells.Cell.{Cell}
use Rattle.netlist_model.specs.Circuit.{Circuit}
use Rattle.netlist_model.specs.Sound.{Fits, IsNetlist}
use Rattle.edit_log.proofs.InTurn.{all_keep, never_memory, never_statement}
use Rattle.edit_log.proofs.laws.edited_netlists_are_sound.Goals as goal

-- what holds of every netlist, of one that fits the library
abbrev Fitting : List Cell → Circuit → Type 0
Fitting library c = IsNetlist c × Fits library c.insts

pub returns-clause-netlist : goal.returns-clause-netlist
returns-clause-netlist c = λ library x y edits sound fits h.
    (all_keep (Fitting library) library
    (λ a b e p made. (c.edits_keep_netlists.ensures.netlist library a b e p.0 p.1 made, c.edits_keep_netlists.ensures.fits library a b e p.1 made))
    1 edits x y (sound, fits) h).0

pub returns-clause-fits : goal.returns-clause-fits
returns-clause-fits c = λ library x y edits fits h.
    all_keep (λ (n : Circuit). Fits library n.insts) library (c.edits_keep_netlists.ensures.fits library) 1 edits x y fits h

pub returns-clause-refused : goal.returns-clause-refused
returns-clause-refused c = λ library. never_memory library (c.edits_keep_netlists.ensures.refused library)

pub returns-clause-statements : goal.returns-clause-statements
returns-clause-statements c = λ library. never_statement library (c.edits_keep_netlists.ensures.refused library)
