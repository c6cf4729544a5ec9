use Rattle.std.proofs.Common.{ap, sym, Some, ◌∙◌}
use Rattle.std.specs.Map.Iter.{deref_pair}
use Rattle.std.specs.Option.{option_map}
use Rattle.netlist_model.proofs.KeyedLemmas.{entry_name, entry_number}
use Rattle.netlist_model.proofs.keys.entry.Goals as goal

pub returns-clause-number : goal.returns-clause-number
returns-clause-number c =
    entry_number c.args.names.now.entries c.args.at (c.unwrap.result.0.now, c.unwrap.result.1.now) (sym c.get_index.ensures.entry ∙ ap (option_map deref_pair) c.unwrap.ensures)

pub returns-clause-name : goal.returns-clause-name
returns-clause-name c =
    entry_name c.args.names.now.entries c.args.at (c.unwrap.result.0.now, c.unwrap.result.1.now) (sym c.get_index.ensures.entry ∙ ap (option_map deref_pair) c.unwrap.ensures)
    ∙ ap Some (sym c.as_slice.ensures.value)
