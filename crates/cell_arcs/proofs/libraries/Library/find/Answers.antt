use Rattle.std.proofs.Common.{ap, position, ◌∙◌, List}
use Rattle.std.specs.Str.{bytes_eq}
use Rattle.cell_arcs.proofs.Names.{position-map}
use Rattle.cell_arcs.proofs.Indexes.{found_has_name, none_has_name}
use Rattle.cell_arcs.specs.declared.cells.Cell.{Cell}
use Rattle.cell_arcs.proofs.libraries.Library.find.Goals as goal

pub returns-clause-place : goal.returns-clause-place
returns-clause-place c =
    c.index_of.ensures
    ∙ ap (position (bytes_eq c.args.name.now)) c.self.invariant.1
    ∙ position-map (λ (x : Cell). x.name) (bytes_eq c.args.name.now) c.self.inside.cells.items
    ∙ ap (λ (cells : List Cell). position (λ x. bytes_eq c.args.name.now x.name) cells) c.self.view_is

pub returns-clause-found : goal.returns-clause-found
returns-clause-found c = found_has_name c.args.self.now c.args.name.now c.index_of.result (returns-clause-place c)

pub returns-clause-none : goal.returns-clause-none
returns-clause-none c = none_has_name c.args.self.now c.args.name.now c.index_of.result (returns-clause-place c)
