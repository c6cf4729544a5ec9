-- How many rules an arc makes, and between which events, told without the rules; no contract of the crate's public calls speaks of them.
use Rattle.std.specs.Prelude.{◌≡◌, ℕ, ◌/◌, ◌%◌, ◌==◌, ◌&&◌, Bool, true, false, not, List, Option, Some, None, option_and_then, length, slice_get}
use Rattle.std.specs.List.{list_any, sum_by}
use Rattle.std.specs.Option.{option_map_or}
use Rattle.cell_arcs.specs.declared.cells.Cell.{Cell}
use Rattle.cell_arcs.specs.declared.cells.CellArc.{CellArc}
use Rattle.cell_arcs.specs.declared.cells.Sense.{Sense}
use Rattle.cell_arcs.specs.declared.senses.EdgePair.{EdgePair}
use Rattle.cell_arcs.specs.Senses.{edges_of}
use mathlib.Core.Bool.{beq}
use Rattle.netlist_model.specs.Circuit.{drives, driver_of}
use Rattle.netlist_model.specs.declared.parts.Instance.{Instance}
use Rattle.netlist_model.specs.declared.parts.NetRef.{NetRef}
use Rattle.netlist_model.specs.declared.parts.NetRef.TheVariants.{Net, Const}
use Rattle.netlist_model.specs.declared.parts.Tick.{Tick}

-- how many rules an arc of this sense makes
abbrev pub sense_count : Sense → ℕ
sense_count sense = length (edges_of sense)

-- how many rules an arc of this sense makes from what its input pin is on
abbrev pub source_count : Option NetRef → Sense → ℕ
source_count (Some (Net a)) sense = sense_count sense
source_count (Some (Const k)) sense = 0
source_count None sense = 0

-- how many rules an arc makes in an instance with these pins
abbrev pub arc_count : List NetRef → CellArc → ℕ
arc_count pins arc = source_count (slice_get pins arc.from) arc.sense

-- how many rules an instance makes
abbrev pub inst_count : List Cell → Instance → ℕ
inst_count library i = option_map_or (λ k. sum_by (arc_count i.pins) k.arcs) (slice_get library i.cell) 0

-- how many rules the instances make
abbrev pub insts_count : List Cell → List Instance → ℕ
insts_count library insts = sum_by (inst_count library) insts

-- whether the edges of a pair are these, which rise or not
abbrev pub is_pair : Bool → Bool → EdgePair → Bool
is_pair source target e = beq e.input source && beq e.output target

-- whether an arc of this sense leads from an edge, which rises or not, to an edge
abbrev pub leads : Sense → Bool → Bool → Bool
leads sense source target = list_any (is_pair source target) (edges_of sense)

-- whether an arc leads from this event to this one of its output's net, by what its input pin is on
abbrev pub source_joins : Option NetRef → Sense → ℕ → ℕ → Bool
source_joins (Some (Net a)) sense s t = (a == s / 2) && leads sense (s % 2 == 0) (t % 2 == 0)
source_joins (Some (Const k)) sense s t = false
source_joins None sense s t = false

-- whether an arc leads between the events of a tick to its output's net, in an instance with these pins
abbrev pub arc_joins : List NetRef → Tick → CellArc → Bool
arc_joins pins t arc = source_joins (slice_get pins arc.from) arc.sense t.source t.target

-- whether an arc of an instance leads between the events of a tick to its output's net
abbrev pub inst_joins : List Cell → Tick → Instance → Bool
inst_joins library t i = option_map_or (λ k. list_any (arc_joins i.pins t) k.arcs) (slice_get library i.cell) false

-- whether the instance that drives the net of a tick's target has no arc between the tick's events
abbrev pub is_unjoined : List Cell → List Instance → Tick → Bool
is_unjoined library insts t =
    not (option_map_or (inst_joins library t) (option_and_then (λ k. slice_get insts k) (driver_of insts (t.target / 2))) false)

-- each instance is the first that drives the net that it drives
pub record HaveOneDriver (insts : List Instance) : Type 0 where
  pub one : (k n : ℕ) (i : Instance) → slice_get insts k ≡ Some i → drives n i ≡ true → driver_of insts n ≡ Some k
