use Rattle.std.proofs.Common.{Some, ap, sym, ◌∙◌, rules}
use Rattle.netlist_reader.proofs.EdgeLemmas.{event_named}
use Rattle.netlist_reader.proofs.words.lent_event.Goals as goal

pub returns : goal.returns
returns c = event_named c.args.word.now c.in-Some.net.now c.in-Some.net.now c.in-Some.edge.now c.in_ok-rising.rising (search rules) (search rules) (search rules) ∙ ap Some (sym c.of.ensures)
