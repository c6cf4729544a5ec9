use Rattle.netlist_model.proofs.Kept.{edits_keep_netlists, edits_keep_fits}
use Rattle.netlist_model.proofs.Refusals.{never_memory}
use Rattle.netlist_model.proofs.Soundness.{nothing_is_netlist}
use Rattle.netlist_model.proofs.laws.edits_keep_netlists.Goals as goal

pub returns-clause-nothing : goal.returns-clause-nothing
returns-clause-nothing c = nothing_is_netlist

pub returns-clause-netlist : goal.returns-clause-netlist
returns-clause-netlist c = edits_keep_netlists

pub returns-clause-fits : goal.returns-clause-fits
returns-clause-fits c = edits_keep_fits

pub returns-clause-refused : goal.returns-clause-refused
returns-clause-refused c = never_memory
