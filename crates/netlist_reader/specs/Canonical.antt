-- The canonical text of a netlist: a line for each part, each line its words with one space between each two.
use Rattle.std.specs.Prelude.{ℕ, List, [], ◌∷◌, ◌++◌, map, slice_get, Option, Some, None, codes, decimal}
use Rattle.std.specs.List.{flat_map}
use Rattle.std.specs.Option.{option_map_or}
use Rattle.cyc_text.specs.Written.{lines_text}
use Rattle.cell_arcs.specs.declared.cells.Cell.{Cell}
use Rattle.cell_arcs.specs.declared.cells.CellArc.{CellArc}
use Rattle.netlist_model.specs.Circuit.{Circuit}
use Rattle.netlist_model.specs.EventNames.{name_at, event_name}
use Rattle.netlist_model.specs.declared.parts.Delay.{Delay}
use Rattle.netlist_model.specs.declared.parts.Fork.{Fork}
use Rattle.netlist_model.specs.declared.parts.Instance.{Instance}
use Rattle.netlist_model.specs.declared.parts.NetRef.{NetRef}
use Rattle.netlist_model.specs.declared.parts.NetRef.TheVariants.{Net, Const}
use Rattle.netlist_model.specs.declared.parts.Tick.{Tick}

-- the name of a net or a constant
abbrev pub ref_name : List (List ℕ) → List (List ℕ) → NetRef → List ℕ
ref_name nets consts (Net n) = name_at nets n
ref_name nets consts (Const k) = name_at consts k

-- `PIN=NET`
abbrev pub pin_name : List (List ℕ) → List (List ℕ) → List ℕ → NetRef → List ℕ
pin_name nets consts pin r = pin ++ 61 ∷ ref_name nets consts r

-- `PIN=NET` for each pin
abbrev pub pin_names : List (List ℕ) → List (List ℕ) → List (List ℕ) → List NetRef → List (List ℕ)
pin_names nets consts [] refs = []
pin_names nets consts (pin ∷ pins) [] = []
pin_names nets consts (pin ∷ pins) (r ∷ refs) = pin_name nets consts pin r ∷ pin_names nets consts pins refs

-- `net NAME`
unfoldable pub net_line : List ℕ → List (List ℕ)
net_line name = codes "net" ∷ name ∷ []

-- `const NAME`
unfoldable pub const_line : List ℕ → List (List ℕ)
const_line name = codes "const" ∷ name ∷ []

-- `inst NAME CELL PIN=NET ..`: the inputs in the cell's order, then the output
unfoldable pub inst_line_of : Circuit → Instance → Cell → List (List ℕ)
inst_line_of c i k = codes "inst" ∷ i.name ∷ k.name ∷ pin_names c.nets c.consts (k.inputs ++ k.output ∷ []) i.pins

-- the words of an instance's line, by its cell in the library
abbrev pub inst_line : List Cell → Circuit → Instance → List (List ℕ)
inst_line library c i = option_map_or (inst_line_of c i) (slice_get library i.cell) []

-- `delay INST PIN RISE FALL`
unfoldable pub delay_line : List ℕ → List ℕ → Delay → List (List ℕ)
delay_line inst pin d = codes "delay" ∷ inst ∷ pin ∷ decimal d.rise ∷ decimal d.fall ∷ []

-- a line where the arc has delays of its own
abbrev pub arc_lines : List ℕ → List (List ℕ) → CellArc → Option Delay → List (List (List ℕ))
arc_lines inst inputs arc None = []
arc_lines inst inputs arc (Some d) = delay_line inst (name_at inputs arc.from) d ∷ []

-- the lines of the arcs that have delays of their own, in order
unfoldable pub delay_lines_of : List ℕ → List (List ℕ) → List CellArc → List (Option Delay) → List (List (List ℕ))
delay_lines_of inst inputs [] delays = []
delay_lines_of inst inputs (arc ∷ arcs) [] = []
delay_lines_of inst inputs (arc ∷ arcs) (d ∷ delays) = arc_lines inst inputs arc d ++ delay_lines_of inst inputs arcs delays

-- the words of the lines of an instance's own delays, by its cell in the library
abbrev pub delay_lines : List Cell → Instance → List (List (List ℕ))
delay_lines library i = option_map_or (λ k. delay_lines_of i.name k.inputs k.arcs i.delays) (slice_get library i.cell) []

-- `tick EVENT EVENT COUNT`
unfoldable pub tick_line : List (List ℕ) → Tick → List (List ℕ)
tick_line nets t = codes "tick" ∷ event_name nets t.source ∷ event_name nets t.target ∷ decimal t.count ∷ []

-- `root EVENT`, where there is a root
unfoldable pub root_lines : List (List ℕ) → Option ℕ → List (List (List ℕ))
root_lines nets None = []
root_lines nets (Some r) = (codes "root" ∷ event_name nets r ∷ []) ∷ []

-- `fork NAME ROOT FAST SLOW MARGIN OFFSET`
unfoldable pub fork_line : List (List ℕ) → Fork → List (List ℕ)
fork_line nets f =
    codes "fork" ∷ f.name ∷ event_name nets f.root ∷ event_name nets f.fast ∷ event_name nets f.slow
    ∷ decimal f.margin ∷ decimal f.offset ∷ []

-- the lines of a netlist: nets, constants, instances, own delays, ticks, root, forks
unfoldable pub canonical_lines : List Cell → Circuit → List (List (List ℕ))
canonical_lines library c =
    map net_line c.nets ++ map const_line c.consts ++ map (inst_line library c) c.insts ++ flat_map (delay_lines library) c.insts
    ++ map (tick_line c.nets) c.ticks ++ root_lines c.nets c.root ++ map (fork_line c.nets) c.forks

-- the canonical text of a netlist
unfoldable pub canonical_text : List Cell → Circuit → List ℕ
canonical_text library c = lines_text (canonical_lines library c)
