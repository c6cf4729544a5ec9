-- What the definition gives on known texts.
use Rattle.std.proofs.Common.{◌≡◌, Ok, Err, refl}
use Rattle.std.specs.Prelude.{⊤}
use Rattle.std.specs.Str.{is_utf8, chars}
use Rattle.toml.proofs.OnLiterals.{toml_on_literals}
use Rattle.cyc_text.specs.Name.{is_name}
use Rattle.cell_arcs.specs.declared.faults.LibraryFault.TheVariants.{BadToml, RepeatedPin}
use Rattle.cell_arcs.specs.Library.{library_of, cells_at, cells_from, cell_of, cell_from, pin_fault, repeat_after, arcs_after, arc_of, delay_of, sense_of, arc_shape, cell_shape}
use Rattle.cell_arcs.specs.Samples.{ring_text, ring_cells, no_value_text, equal_pins_text}

unfoldable library_on_literals : ⊤
unfolding toml_on_literals library_of is_utf8 chars is_name cells_at cells_from cell_of cell_from pin_fault repeat_after arcs_after arc_of delay_of sense_of arc_shape cell_shape ring_text ring_cells no_value_text equal_pins_text
library_on_literals = tt

pub no_value : library_of no_value_text ≡ Err BadToml
unfolding library_on_literals
no_value = refl

pub equal_pins : library_of equal_pins_text ≡ Err (RepeatedPin 1 2)
unfolding library_on_literals
equal_pins = refl

pub ring : library_of ring_text ≡ Ok ring_cells
unfolding library_on_literals
ring = refl
