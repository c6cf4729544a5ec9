use Rattle.std.proofs.Common.{ap, arith, ◌∙◌}
use Rattle.std.specs.List.{remove}
use Rattle.netlist_model.specs.Hints.{hint_of}
use Rattle.netlist_model.specs.Keyed.{number_in}
use Rattle.netlist_model.proofs.KeyedLemmas.{as_many, keys_many, names_remove, number_updated, table_remove}
use Rattle.netlist_model.proofs.keys.Keys.remove.Goals as goal

pub invariant_of-self : goal.invariant_of-self
invariant_of-self c =
    table_remove c.self.inside.names.entries c.shift_remove_index.new.self.entries (hint_of c.self.inside.hints) (number_in c.self.inside.numbers) (hint_of c.forget.new.hints) (number_in c.remove.new.self) c.self.inside.next c.args.at c.index.result.now
    c.self.invariant c.shift_remove_index.ensures.entries c.index.ensures
    (λ q. rw (← c.as_slice-name.ensures.value) (number_updated c.as_slice-name.result.now c.self.inside.numbers c.remove.new.self _ c.remove.ensures.updates q))
    (λ q k h other low. c.forget.ensures q k h other (omega (arith, c.len.ensures.len, as_many c.self.inside.names.entries, keys_many c.self.inside.names.entries)))

pub returns : goal.returns
returns c = names_remove c.self.inside.names.entries c.shift_remove_index.new.self.entries c.args.at c.shift_remove_index.ensures.entries ∙ ap (λ names. remove names c.args.at) c.self.view_is
