-- The rules that a netlist stands for.
use Rattle.std.specs.Prelude.{ℕ, ◌+◌, ◌++◌, Bool, true, false, List, [], ◌∷◌, Option, Some, None, option_map, map, unwrap_or, slice_get}
use Rattle.std.specs.List.{flat_map}
use Rattle.std.specs.Option.{option_map_or}
use Rattle.cell_arcs.specs.declared.cells.Cell.{Cell}
use Rattle.cell_arcs.specs.declared.cells.CellArc.{CellArc}
use Rattle.cell_arcs.specs.declared.cells.Sense.{Sense}
use Rattle.cell_arcs.specs.declared.senses.EdgePair.{EdgePair}
use Rattle.cell_arcs.specs.Senses.{edges_of}
use Rattle.netlist_model.specs.Circuit.{Circuit, event_at, last_of, tick_of}
use Rattle.netlist_model.specs.declared.parts.Delay.{Delay}
use Rattle.netlist_model.specs.declared.parts.Instance.{Instance}
use Rattle.netlist_model.specs.declared.parts.NetRef.{NetRef}
use Rattle.netlist_model.specs.declared.parts.NetRef.TheVariants.{Net, Const}
use Rattle.netlist_model.specs.declared.parts.Tick.{Tick}

-- a rule: the target's occurrence i comes no earlier than the source's occurrence i - offset and the delay
pub record Rule : Type 0 where
  pub source : ℕ
  pub target : ℕ
  pub delay : ℕ
  pub offset : ℕ

-- the offset from an event to another: the count of their tick, or 0 where they have none
abbrev pub offset_of : List Tick → ℕ → ℕ → ℕ
offset_of ticks source target = unwrap_or (option_map (λ t. t.count) (tick_of ticks source target)) 0

-- a rule from an edge of a net to an edge of another
abbrev pub rule_of : List Tick → ℕ → ℕ → ℕ → Rule
rule_of ticks source target delay =
    record { source = source; target = target; delay = delay; offset = offset_of ticks source target }

-- the delay of an arc to an edge of its output, which rises or not
abbrev pub delay_to : Bool → Delay → ℕ
delay_to true d = d.rise
delay_to false d = d.fall

-- the rule of an arc from net a to net z for a pair of edges
abbrev pub edge_rule : List Tick → ℕ → ℕ → Delay → EdgePair → Rule
edge_rule ticks a z d e = rule_of ticks (event_at e.input a) (event_at e.output z) (delay_to e.output d)

-- the rules of an arc from net a to net z, one for each pair of edges of its sense
abbrev pub rules_by : Sense → List Tick → ℕ → ℕ → Delay → List Rule
rules_by sense ticks a z d = map (edge_rule ticks a z d) (edges_of sense)

-- the delays of an arc: those that the instance has of its own, or else the cell's
abbrev pub delay_of : CellArc → Option (Option Delay) → Delay
delay_of arc (Some (Some own)) = own
delay_of arc (Some None) = record { rise = arc.rise; fall = arc.fall }
delay_of arc None = record { rise = arc.rise; fall = arc.fall }

-- the rules of an arc whose input pin and output pin are on these; an arc from a constant makes none
abbrev pub rules_of_arc : List Tick → Option NetRef → Option NetRef → CellArc → Delay → List Rule
rules_of_arc ticks (Some (Net a)) (Some (Net z)) arc d = rules_by arc.sense ticks a z d
rules_of_arc ticks (Some (Net a)) (Some (Const k)) arc d = []
rules_of_arc ticks (Some (Net a)) None arc d = []
rules_of_arc ticks (Some (Const k)) out arc d = []
rules_of_arc ticks None out arc d = []

-- the rules of the arcs of an instance's cell, in order, from the arc at a place on
abbrev pub rules_of_arcs : List Tick → Instance → ℕ → List CellArc → List Rule
rules_of_arcs ticks i place [] = []
rules_of_arcs ticks i place (arc ∷ arcs) =
    rules_of_arc ticks (slice_get i.pins arc.from) (last_of i.pins) arc (delay_of arc (slice_get i.delays place))
    ++ rules_of_arcs ticks i (place + 1) arcs

-- the rules of an instance
abbrev pub rules_of_inst : List Cell → List Tick → Instance → List Rule
rules_of_inst library ticks i = option_map_or (λ k. rules_of_arcs ticks i 0 k.arcs) (slice_get library i.cell) []

-- the rules of a netlist: the instances in order, each one's arcs in order
abbrev pub rules_of : List Cell → Circuit → List Rule
rules_of library c = flat_map (rules_of_inst library c.ticks) c.insts
