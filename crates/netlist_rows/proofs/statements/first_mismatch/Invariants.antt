use Rattle.netlist_model.specs.Sound.{Fits}
use Rattle.netlist_rows.proofs.statements.first_mismatch.Given as goal

abbrev pub invariant-rows : goal.invariant-rows
invariant-rows l = Fits l.library l.netlist.insts
