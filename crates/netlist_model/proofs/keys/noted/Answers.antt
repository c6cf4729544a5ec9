use Rattle.std.specs.Map.{keys_of}
use Rattle.netlist_model.specs.Hints.{hint_of}
use Rattle.netlist_model.specs.Keyed.{names_in, number_in}
use Rattle.netlist_model.proofs.KeyedLemmas.{as_many, found_next}
use Rattle.netlist_model.proofs.keys.noted.Goals as goal

pub loop-at-preserved : goal.loop-at-preserved
loop-at-preserved c =
    let entries = c.args.names.now.entries in
    found_next (names_in entries) (keys_of entries) (hint_of c.loop-at.hints) (number_in c.loop-at.numbers) (hint_of c.note.new.hints) (number_in c.note.new.numbers) c.entry-number.result.0 c.loop-at.at c.entry-number.result.1.now
    c.loop-at.invariant c.requires (as_many entries) c.entry-number.ensures.name c.entry-number.ensures.number c.in_ok-note.ensures.ok
