use Rattle.std.proofs.Common.{ap, sym, ◌∙◌}
use Rattle.std.specs.Map.{keys_of}
use Rattle.netlist_model.specs.Circuit.{place_of}
use Rattle.netlist_model.specs.Hints.{hint_of}
use Rattle.netlist_model.specs.Keyed.{names_in, number_in}
use Rattle.netlist_model.proofs.KeyedLemmas.{keyed_here, keyed_place, keyed_none}
use Rattle.netlist_model.proofs.keys.Keys.find.Goals as goal

pub returns-in-Some-clause-place : goal.returns-in-Some-clause-place
returns-in-Some-clause-place c =
    sym (ap (place_of c.args.name.now) (sym c.self.view_is)
    ∙ keyed_here (names_in c.self.inside.names.entries) c.in-Some.at c.args.name.now c.self.invariant.differ c.in-Some.ensures.here)

pub returns-in-Some-get-clause-place : goal.returns-in-Some-get-clause-place
returns-in-Some-get-clause-place c =
    c.get_index_of.ensures.index
    ∙ keyed_place (names_in c.self.inside.names.entries) (keys_of c.self.inside.names.entries) (hint_of c.self.inside.hints) (number_in c.self.inside.numbers) c.args.name.now c.in-Some-get.number.now
    c.self.invariant.found (c.get_index_of.ensures.unique) (sym c.in-Some-get.ensures.value)
    ∙ ap (place_of c.args.name.now) c.self.view_is

pub returns-in-None-clause-place : goal.returns-in-None-clause-place
returns-in-None-clause-place c =
    let none =
    keyed_none (names_in c.self.inside.names.entries) (keys_of c.self.inside.names.entries) (hint_of c.self.inside.hints) (number_in c.self.inside.numbers) c.args.name.now
    c.self.invariant.found (sym c.in-None.ensures.value) c.in_default.ensures.missed in
    sym (sym (ap (place_of c.args.name.now) c.self.view_is) ∙ none)
