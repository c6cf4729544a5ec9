use Rattle.netlist_reader.proofs.DeletedNets.{net_left_out}
use Rattle.netlist_reader.proofs.laws.deleted_nets_lose_their_line.Goals as goal

pub returns : goal.returns
returns c = net_left_out
