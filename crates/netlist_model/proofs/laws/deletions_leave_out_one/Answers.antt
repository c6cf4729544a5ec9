use Rattle.netlist_model.proofs.Undone.{inst_left_out, fork_left_out}
use Rattle.netlist_model.proofs.laws.deletions_leave_out_one.Goals as goal

pub returns-clause-inst : goal.returns-clause-inst
returns-clause-inst c = inst_left_out

pub returns-clause-fork : goal.returns-clause-fork
returns-clause-fork c = fork_left_out
