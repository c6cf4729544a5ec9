use Rattle.std.proofs.Common.{◌≡◌, ap, sym, Some, ◌∙◌, true, false}
use Rattle.std.specs.Cmp.Lexicographic.{bytes_decides}
use Rattle.std.specs.List.{slice_get}
use Rattle.std.specs.Str.{bytes_eq}
use Rattle.netlist_model.specs.Keyed.{names_in}
use Rattle.netlist_model.proofs.KeyedLemmas.{bytes_same, named_at}
use Rattle.netlist_model.proofs.keys.at_hint.Goals as goal

pub returns-then-eq-clause-here : goal.returns-then-eq-clause-here
returns-then-eq-clause-here c =
    let same : c.index.result.now.items ≡ c.args.name.now = sym c.as_slice.ensures.value ∙ bytes_same c.as_slice.result.now c.args.name.now (sym c.if-eq.ensures) in
    named_at c.args.names.now.entries c.in_ok-place.place c.index.result.now c.index.ensures ∙ ap Some same

pub returns-else-eq-clause-missed : goal.returns-else-eq-clause-missed
returns-else-eq-clause-missed c k hinted stands =
    let names = names_in c.args.names.now.entries in
    let place = c.in_ok-place.place in
    let p : Some place ≡ Some k = c.in_ok-place.ensures ∙ hinted in
    let same_place : place ≡ k = cc in
    let q : Some c.index.result.now.items ≡ Some c.args.name.now = sym (named_at c.args.names.now.entries place c.index.result.now c.index.ensures) ∙ ap (slice_get names) same_place ∙ stands in
    let same : c.index.result.now.items ≡ c.args.name.now = cc in
    let is : bytes_eq c.as_slice.result.now c.args.name.now ≡ true = (bytes_decides c.as_slice.result.now c.args.name.now).1 (c.as_slice.ensures.value ∙ same) in
    let f : true ≡ false = sym is ∙ sym c.if-eq.ensures in cc
