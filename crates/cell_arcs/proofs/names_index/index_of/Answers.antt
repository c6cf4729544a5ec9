use Rattle.std.proofs.Common.{Vec, Global, ℕ, sym, ◌∙◌}
use Rattle.std.specs.Str.{bytes_eq}
use Rattle.cell_arcs.proofs.Names.{position-map}
use Rattle.cell_arcs.proofs.names_index.index_of.Goals as goal

pub returns : goal.returns
returns c = c.get_index_of.ensures.index ∙ sym (position-map (λ (v : Vec ℕ Global). v.items) (bytes_eq c.args.name.now) c.args.names.now.keys)
