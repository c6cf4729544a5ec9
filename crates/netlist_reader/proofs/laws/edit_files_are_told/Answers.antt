use Rattle.netlist_reader.proofs.EditFiles.{files_say, first_told, never_memory}
use Rattle.netlist_reader.proofs.laws.edit_files_are_told.Goals as goal

pub returns-clause-said : goal.returns-clause-said
returns-clause-said c = files_say

pub returns-clause-first : goal.returns-clause-first
returns-clause-first c = first_told

pub returns-clause-refused : goal.returns-clause-refused
returns-clause-refused c = never_memory
