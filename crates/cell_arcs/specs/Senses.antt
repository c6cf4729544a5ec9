-- Which edges an arc of a sense joins.
use Rattle.std.specs.Prelude.{Bool, true, false, List, [], ◌∷◌}
use Rattle.cell_arcs.specs.declared.cells.Sense.{Sense}
use Rattle.cell_arcs.specs.declared.cells.Sense.TheVariants.{Pos, Neg, Non}
use Rattle.cell_arcs.specs.declared.senses.EdgePair.{EdgePair}

-- an edge of the input, true where it rises, and an edge of the output that it causes
abbrev pub both : Bool → Bool → EdgePair
both input output = record { input = input; output = output }

-- the pairs of edges of a sense: those to the rising output first, and of these the rising input first
abbrev pub edges_of : Sense → List EdgePair
edges_of Pos = both true true ∷ both false false ∷ []
edges_of Neg = both false true ∷ both true false ∷ []
edges_of Non = both true true ∷ both false true ∷ both true false ∷ both false false ∷ []
