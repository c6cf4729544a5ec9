-- Each statement: the first refusal that holds, or the netlist after it.
use Rattle.std.specs.Prelude.{ℕ, ◌+◌, ◌++◌, ◌==◌, ◌&&◌, Bool, not, nat_lt, nat_le, if◌then◌else◌, List, [], ◌∷◌, length, map, filter, find, Option, Some, None, is_some, is_none, option_and_then, position, slice_get, slice_set, Result, Ok, Err}
use Rattle.std.specs.Cmp.Lexicographic.{pointwise}
use Rattle.std.specs.List.{list_any}
use Rattle.std.specs.Option.{option_map_or}
use Rattle.std.specs.Str.{bytes_eq}
use Rattle.cyc_text.specs.Name.{is_name}
use Rattle.cyc_text.specs.declared.limits.Limit.TheVariants.{Nets, Consts, Forks, Roots}
use Rattle.cell_arcs.specs.declared.cells.Cell.{Cell}
use Rattle.cell_arcs.specs.Steps.{◌>>=◌, or_fault, or_else, unless_fault}
use Rattle.netlist_model.specs.Circuit.{Circuit, place_of, ref_of, event_of, inst_of, fork_of, driver_of, is_between, tick_of, roots_of}
use Rattle.netlist_model.specs.declared.faults.StatementFault.{StatementFault}
use Rattle.netlist_model.specs.declared.faults.StatementFault.TheVariants.{BadName, NameTaken, UnknownNet, UnknownCell, UnknownInst, UnknownPin, BadPins, DriverTaken, ConstDriven, NoArc, OutOfRange, TickTaken, UnknownEvent, RootTaken, ForkTaken, TooMany}
use Rattle.netlist_model.specs.declared.parts.EventName.{EventName}
use Rattle.netlist_model.specs.declared.parts.Fork.{Fork}
use Rattle.netlist_model.specs.declared.parts.Instance.{Instance}
use Rattle.netlist_model.specs.declared.parts.NetRef.{NetRef}
use Rattle.netlist_model.specs.declared.parts.NetRef.TheVariants.{Net, Const}
use Rattle.netlist_model.specs.declared.parts.PinNet.{PinNet}

-- the rest, unless this fault's cause holds
abbrev pub unless : {A : Type 0} → Bool → StatementFault → Result A StatementFault → Result A StatementFault
unless cause e r = if cause then Err e else r

-- whether a net with events or a constant has the name
abbrev pub is_ref : Circuit → List ℕ → Bool
is_ref c name = is_some (ref_of c.nets c.consts name)

-- net NAME
unfoldable pub add_net : Circuit → List ℕ → Result Circuit StatementFault
add_net c name =
    unless (not (is_name name)) BadName
    (unless (is_ref c name) NameTaken
    (unless (nat_le 16384 (length c.nets)) (TooMany Nets)
    (Ok (record c { nets = c.nets ++ name ∷ [] }))))

-- const NAME
unfoldable pub add_const : Circuit → List ℕ → Result Circuit StatementFault
add_const c name =
    unless (not (is_name name)) BadName
    (unless (is_ref c name) NameTaken
    (unless (nat_le 1024 (length c.consts)) (TooMany Consts)
    (Ok (record c { consts = c.consts ++ name ∷ [] }))))

-- the fault of a pin word after those before
unfoldable pub word_fault : List (List ℕ) → List (List ℕ) → List (List ℕ) → List PinNet → PinNet → Option StatementFault
word_fault nets consts pins before w =
    if not (list_any (bytes_eq w.pin) pins) then Some UnknownPin
    else if list_any (λ b. bytes_eq w.pin b.pin) before then Some BadPins
    else if is_none (ref_of nets consts w.net) then Some UnknownNet
    else None

-- the first fault of the pin words, after those before
unfoldable pub pin_fault : List (List ℕ) → List (List ℕ) → List (List ℕ) → List PinNet → List PinNet → Option StatementFault
pin_fault nets consts pins before [] = None
pin_fault nets consts pins before (w ∷ ws) = or_else (word_fault nets consts pins before w) (pin_fault nets consts pins (before ++ w ∷ []) ws)

-- what a pin is on, by the word that gives it
abbrev pub wire_of : List (List ℕ) → List (List ℕ) → List PinNet → List ℕ → Option NetRef
wire_of nets consts words pin = option_and_then (λ w. ref_of nets consts w.net) (find (λ w. bytes_eq pin w.pin) words)

-- what the pins are on, after those done, if each is given
unfoldable pub wires_of : List (List ℕ) → List (List ℕ) → List PinNet → List NetRef → List (List ℕ) → Option (List NetRef)
wires_of nets consts words done [] = Some done
wires_of nets consts words done (p ∷ ps) = option_and_then (λ r. wires_of nets consts words (done ++ r ∷ []) ps) (wire_of nets consts words p)

-- why an output may not be on this
abbrev pub output_fault : List Instance → NetRef → Option StatementFault
output_fault insts (Const k) = Some ConstDriven
output_fault insts (Net n) = option_and_then (λ d. Some (DriverTaken (d + 1))) (driver_of insts n)

-- inst NAME CELL PIN=NET ..: the instance of the cell at a place
unfoldable pub add_inst_of : Circuit → List ℕ → ℕ → Cell → List PinNet → Result Circuit StatementFault
add_inst_of c name at k words =
    unless_fault (pin_fault c.nets c.consts (k.inputs ++ k.output ∷ []) [] words)
    (or_fault BadPins (wires_of c.nets c.consts words [] k.inputs) >>= (λ inputs.
    or_fault BadPins (wire_of c.nets c.consts words k.output) >>= (λ output.
    unless_fault (output_fault c.insts output)
    (Ok (record c { insts = c.insts ++ record { name = name; cell = at; pins = inputs ++ output ∷ []; delays = map (λ _. None) k.arcs } ∷ [] })))))

-- inst NAME CELL PIN=NET ..
unfoldable pub add_inst : List Cell → Circuit → List ℕ → List ℕ → List PinNet → Result Circuit StatementFault
add_inst library c name cell words =
    unless (not (is_name name)) BadName
    (unless (is_some (inst_of c.insts name)) NameTaken
    (or_fault UnknownCell (position (λ k. bytes_eq cell k.name) library) >>= (λ at.
    or_fault UnknownCell (slice_get library at) >>= (λ k.
    add_inst_of c name at k words))))

-- the place of the arc from a pin of the cell
unfoldable pub arc_of : Cell → List ℕ → Result ℕ StatementFault
arc_of k pin =
    or_fault UnknownPin (place_of pin (k.inputs ++ k.output ∷ [])) >>= (λ from.
    or_fault NoArc (position (λ a. a.from == from) k.arcs))

-- the cell of the instance at a place
abbrev pub cell_at : List Cell → List Instance → ℕ → Option Cell
cell_at library insts at = option_and_then (λ i. slice_get library i.cell) (slice_get insts at)

-- the instances, the one at a place with delays of its own for the arc at a place
abbrev pub with_delay : List Instance → ℕ → ℕ → ℕ → ℕ → List Instance
with_delay insts at arc rise fall =
    option_map_or (λ i. slice_set insts at (record i { delays = slice_set i.delays arc (Some (record { rise = rise; fall = fall })) })) (slice_get insts at) insts

-- delay INST PIN RISE FALL
unfoldable pub set_delay : List Cell → Circuit → List ℕ → List ℕ → ℕ → ℕ → Result Circuit StatementFault
set_delay library c inst pin rise fall =
    or_fault UnknownInst (inst_of c.insts inst) >>= (λ at.
    or_fault UnknownCell (cell_at library c.insts at) >>= (λ k.
    arc_of k pin >>= (λ arc.
    unless (nat_lt 1000000 rise) (OutOfRange rise)
    (unless (nat_lt 1000000 fall) (OutOfRange fall)
    (Ok (record c { insts = with_delay c.insts at arc rise fall }))))))

-- why the output of the instance at a place may not be moved to this
abbrev pub moved_output_fault : List Instance → ℕ → NetRef → Option StatementFault
moved_output_fault insts at (Const k) = Some ConstDriven
moved_output_fault insts at (Net n) =
    option_and_then (λ d. if d == at then None else Some (DriverTaken (d + 1))) (driver_of insts n)

-- the instances, the pin at a place of the one at a place on this
abbrev pub with_pin : List Instance → ℕ → ℕ → NetRef → List Instance
with_pin insts at pin r =
    option_map_or (λ i. slice_set insts at (record i { pins = slice_set i.pins pin r })) (slice_get insts at) insts

-- move INST PIN NET; the last of the pins is the output
unfoldable pub move_pin : List Cell → Circuit → List ℕ → List ℕ → List ℕ → Result Circuit StatementFault
move_pin library c inst pin net =
    or_fault UnknownInst (inst_of c.insts inst) >>= (λ at.
    or_fault UnknownCell (cell_at library c.insts at) >>= (λ k.
    or_fault UnknownPin (place_of pin (k.inputs ++ k.output ∷ [])) >>= (λ p.
    or_fault UnknownNet (ref_of c.nets c.consts net) >>= (λ r.
    unless_fault (if p == length k.inputs then moved_output_fault c.insts at r else None)
    (Ok (record c { insts = with_pin c.insts at p r }))))))

-- whether the cells have the same input names in the same order and the same output name
abbrev pub has_pins_of : Cell → Cell → Bool
has_pins_of old new = pointwise bytes_eq old.inputs new.inputs && bytes_eq old.output new.output

-- the instances, the one at a place of this cell of the library, with its pins as they are and no delays of its own
abbrev pub with_cell : List Instance → ℕ → ℕ → Cell → List Instance
with_cell insts at to new =
    option_map_or (λ i. slice_set insts at (record i { cell = to; delays = map (λ _. None) new.arcs })) (slice_get insts at) insts

-- swap INST CELL
unfoldable pub swap_cell : List Cell → Circuit → List ℕ → List ℕ → Result Circuit StatementFault
swap_cell library c inst cell =
    or_fault UnknownInst (inst_of c.insts inst) >>= (λ at.
    or_fault UnknownCell (cell_at library c.insts at) >>= (λ old.
    or_fault UnknownCell (position (λ k. bytes_eq cell k.name) library) >>= (λ to.
    or_fault UnknownCell (slice_get library to) >>= (λ new.
    unless (not (has_pins_of old new)) BadPins
    (Ok (record c { insts = with_cell c.insts at to new }))))))

-- tick EVENT EVENT 0 takes the pair's tick away
unfoldable pub end_tick : Circuit → ℕ → ℕ → Result Circuit StatementFault
end_tick c source target =
    unless (is_none (tick_of c.ticks source target)) (OutOfRange 0)
    (Ok (record c { ticks = filter (λ t. not (is_between source target t)) c.ticks }))

-- tick EVENT EVENT COUNT with a count above 0
unfoldable pub start_tick : Circuit → ℕ → ℕ → ℕ → Result Circuit StatementFault
start_tick c source target count =
    unless (is_some (tick_of c.ticks source target)) TickTaken
    (Ok (record c { ticks = c.ticks ++ record { source = source; target = target; count = count } ∷ [] }))

-- tick EVENT EVENT COUNT
unfoldable pub set_tick : Circuit → EventName → EventName → ℕ → Result Circuit StatementFault
set_tick c source target count =
    or_fault UnknownEvent (event_of c.nets source) >>= (λ s.
    or_fault UnknownEvent (event_of c.nets target) >>= (λ t.
    unless (nat_lt 15 count) (OutOfRange count)
    (if count == 0 then end_tick c s t else start_tick c s t count)))

-- root EVENT
unfoldable pub set_root : Circuit → EventName → Bool → Result Circuit StatementFault
set_root c event again =
    or_fault UnknownEvent (event_of c.nets event) >>= (λ r.
    unless (not again && is_some c.root) RootTaken
    (Ok (record c { root = Some r })))

-- fork NAME ROOT FAST SLOW MARGIN OFFSET, with the events known
unfoldable pub add_fork_of : Circuit → Fork → Result Circuit StatementFault
add_fork_of c f =
    unless (nat_lt 1000000 f.margin) (OutOfRange f.margin)
    (unless (nat_lt 15 f.offset) (OutOfRange f.offset)
    (unless (nat_le 256 (length c.forks)) (TooMany Forks)
    (unless (not (list_any (λ r. f.root == r) (roots_of c.forks)) && nat_le 64 (length (roots_of c.forks))) (TooMany Roots)
    (Ok (record c { forks = c.forks ++ f ∷ [] })))))

-- fork NAME ROOT FAST SLOW MARGIN OFFSET
unfoldable pub add_fork : Circuit → List ℕ → EventName → EventName → EventName → ℕ → ℕ → Result Circuit StatementFault
add_fork c name root fast slow margin offset =
    unless (not (is_name name)) BadName
    (unless (is_some (fork_of c.forks name)) ForkTaken
    (or_fault UnknownEvent (event_of c.nets root) >>= (λ r.
    or_fault UnknownEvent (event_of c.nets fast) >>= (λ a.
    or_fault UnknownEvent (event_of c.nets slow) >>= (λ b.
    add_fork_of c (record { name = name; root = r; fast = a; slow = b; margin = margin; offset = offset }))))))
