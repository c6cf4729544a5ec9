use Rattle.netlist_model.proofs.Undone.{net_undone, const_undone, inst_undone, fork_undone}
use Rattle.netlist_model.proofs.laws.additions_are_undone.Goals as goal

pub returns-clause-net : goal.returns-clause-net
returns-clause-net c = net_undone

pub returns-clause-constant : goal.returns-clause-constant
returns-clause-constant c = const_undone

pub returns-clause-inst : goal.returns-clause-inst
returns-clause-inst c = inst_undone

pub returns-clause-fork : goal.returns-clause-fork
returns-clause-fork c = fork_undone
