use Rattle.netlist_reader.proofs.EditFiles.{file_edited, written_edited}
use Rattle.netlist_reader.proofs.laws.accepted_files_are_edits.Goals as goal

pub returns-clause-file : goal.returns-clause-file
returns-clause-file c = file_edited

pub returns-clause-written : goal.returns-clause-written
returns-clause-written c = written_edited c.written_netlists_are_read_back.ensures
