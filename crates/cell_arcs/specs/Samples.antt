-- Known texts of libraries.
use Rattle.std.specs.Prelude.{ℕ, List, [], ◌∷◌, codes}
use Rattle.cell_arcs.specs.declared.cells.Cell.{Cell}
use Rattle.cell_arcs.specs.declared.cells.Sense.TheVariants.{Pos, Neg}

-- the library of the Muller ring
unfoldable pub ring_text : List ℕ
ring_text = codes "[cell.C2]\ninputs = [\"A\", \"B\"]\noutput = \"Z\"\narcs = [{ from = \"A\", sense = \"pos\", rise = 20, fall = 18 }, { from = \"B\", sense = \"pos\", rise = 20, fall = 18 }]\n\n[cell.INV]\ninputs = [\"A\"]\noutput = \"Z\"\narcs = [{ from = \"A\", sense = \"neg\", rise = 12, fall = 10 }]\n"

-- its two cells
unfoldable pub ring_cells : List Cell
ring_cells =
    record {
      name = codes "C2";
      inputs = codes "A" ∷ codes "B" ∷ [];
      output = codes "Z";
      arcs =
          record { from = 0; sense = Pos; rise = 20; fall = 18 }
          ∷ record { from = 1; sense = Pos; rise = 20; fall = 18 } ∷ [];
    }
    ∷ record {
      name = codes "INV";
      inputs = codes "A" ∷ [];
      output = codes "Z";
      arcs = record { from = 0; sense = Neg; rise = 12; fall = 10 } ∷ [];
    } ∷ []

-- a key without a value
unfoldable pub no_value_text : List ℕ
no_value_text = codes "x = "

-- a cell with two inputs of one name
unfoldable pub equal_pins_text : List ℕ
equal_pins_text = codes "[cell.A]\ninputs = [\"A\", \"A\"]\noutput = \"Z\"\narcs = []\n"
