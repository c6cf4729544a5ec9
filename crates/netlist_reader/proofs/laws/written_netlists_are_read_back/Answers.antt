use Rattle.netlist_reader.proofs.ReadBack.{netlists_are_read_back}
use Rattle.netlist_reader.proofs.laws.written_netlists_are_read_back.Goals as goal

pub returns : goal.returns
returns c = netlists_are_read_back c.words_are_read_back.ensures c.lines_are_read_back.ensures
