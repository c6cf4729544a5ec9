use Rattle.std.proofs.lemmas.Option.{slice_get_within}
use Rattle.netlist_model.proofs.RuleLemmas.{few_arcs}
use Rattle.netlist_model.proofs.counting.cell_of.Goals as goal

pub cell-requires : goal.cell-requires
cell-requires c = slice_get_within _ _ c.requires.0 c.requires.1

pub returns-clause-few : goal.returns-clause-few
returns-clause-few c = few_arcs _ c.cell.ensures.sound
