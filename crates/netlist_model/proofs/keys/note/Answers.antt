use Rattle.netlist_model.specs.Hints.{hint_of}
use Rattle.netlist_model.proofs.KeyedLemmas.{numbered}
use Rattle.netlist_model.proofs.keys.note.Goals as goal

pub returns-clause-ok : goal.returns-clause-ok
returns-clause-ok c =
    numbered c.args.name.now c.args.number c.args.place (hint_of c.args.hints.now) (hint_of c.note.new.self) c.args.numbers.now c.insert.new.self c.in_ok-key.key c.in_ok-key.ensures.items
    c.in_ok-insert.ensures.updates c.note.ensures.kept
