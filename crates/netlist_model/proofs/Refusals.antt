-- No statement is refused for want of memory.
use Rattle.std.proofs.Common.{◌≢◌, ℕ, ◌+◌, ◌==◌, ◌&&◌, not, List, [], ◌∷◌, ◌++◌, length, Bool, true, false, nat_lt, nat_le, Option, Some, None, is_some, is_none, option_and_then, position, slice_get, Result, Ok, Err, refl, subst, if◌then◌else◌}
use Rattle.std.specs.List.{list_any}
use Rattle.std.specs.Str.{bytes_eq}
use Rattle.cyc_text.specs.Name.{is_name}
use Rattle.cyc_text.specs.declared.limits.Limit.TheVariants.{Nets, Consts, Forks, Roots}
use Rattle.cell_arcs.specs.declared.cells.Cell.{Cell}
use Rattle.cell_arcs.specs.Steps.{or_else, or_fault, unless_fault, ◌>>=◌}
use Rattle.netlist_model.specs.Circuit.{Circuit, place_of, ref_of, event_of, inst_of, fork_of, driver_of, tick_of, roots_of}
use Rattle.netlist_model.specs.Deletions.{is_used, del_inst, del_net, del_fork}
use Rattle.netlist_model.specs.Edits.{made}
use Rattle.netlist_model.specs.Statements.{unless, is_ref, add_net, add_const, word_fault, pin_fault, wire_of, wires_of, output_fault, add_inst_of, add_inst, arc_of, cell_at, moved_output_fault, move_pin, has_pins_of, swap_cell, set_delay, end_tick, start_tick, set_tick, set_root, add_fork_of, add_fork}
use Rattle.netlist_model.specs.declared.edits.Edit.{Edit}
use Rattle.netlist_model.specs.declared.edits.Edit.TheVariants as edit
use Rattle.netlist_model.specs.declared.faults.StatementFault.{StatementFault}
use Rattle.netlist_model.specs.declared.faults.StatementFault.TheVariants.{BadName, NameTaken, UnknownNet, UnknownCell, UnknownInst, UnknownPin, BadPins, DriverTaken, NoArc, OutOfRange, TickTaken, UnknownEvent, RootTaken, ForkTaken, UnknownFork, StillUsed, TooMany, Memory}
use Rattle.netlist_model.specs.declared.parts.EventName.{EventName}
use Rattle.netlist_model.specs.declared.parts.Fork.{Fork}
use Rattle.netlist_model.specs.declared.parts.Instance.{Instance}
use Rattle.netlist_model.specs.declared.parts.NetRef.{NetRef}
use Rattle.netlist_model.specs.declared.parts.NetRef.TheVariants.{Net, Const}
use Rattle.netlist_model.specs.declared.parts.PinNet.{PinNet}

abbrev NoWant : {A : Type 0} → Result A StatementFault → Type 0
NoWant (Ok x) = Unit {0}
NoWant (Err e) = e ≢ Memory

abbrev NoneWants : Option StatementFault → Type 0
NoneWants None = Unit {0}
NoneWants (Some e) = e ≢ Memory

bind_no_want : {A B : Type 0} (r : Result A StatementFault) (f : A → Result B StatementFault) → NoWant r → ((x : A) → NoWant (f x)) → NoWant (r >>= f)
bind_no_want (Ok x) f h k = k x
bind_no_want (Err e) f h k = h

or_fault_no_want : {A : Type 0} (e : StatementFault) (o : Option A) → e ≢ Memory → NoWant (or_fault e o)
or_fault_no_want e None h = h
or_fault_no_want e (Some x) h = tt

unless_no_want : {A : Type 0} (b : Bool) (e : StatementFault) (r : Result A StatementFault) → e ≢ Memory → NoWant r → NoWant (unless b e r)
unless_no_want true e r h k = h
unless_no_want false e r h k = k

unless_fault_no_want : {A : Type 0} (o : Option StatementFault) (r : Result A StatementFault) → NoneWants o → NoWant r → NoWant (unless_fault o r)
unless_fault_no_want None r h k = k
unless_fault_no_want (Some e) r h k = h

or_else_none_wants : (a b : Option StatementFault) → NoneWants a → NoneWants b → NoneWants (or_else a b)
or_else_none_wants None b h k = k
or_else_none_wants (Some e) b h k = h

add_net_no_want : (c : Circuit) (name : List ℕ) → NoWant (add_net c name)
unfolding add_net
add_net_no_want c name =
    unless_no_want (not (is_name name)) BadName _ (λ h. cc)
    (unless_no_want (is_ref c name) NameTaken _ (λ h. cc)
    (unless_no_want (nat_le 16384 (length c.nets)) (TooMany Nets) _ (λ h. cc) tt))

add_const_no_want : (c : Circuit) (name : List ℕ) → NoWant (add_const c name)
unfolding add_const
add_const_no_want c name =
    unless_no_want (not (is_name name)) BadName _ (λ h. cc)
    (unless_no_want (is_ref c name) NameTaken _ (λ h. cc)
    (unless_no_want (nat_le 1024 (length c.consts)) (TooMany Consts) _ (λ h. cc) tt))

word_none_wants : (nets consts pins : List (List ℕ)) (before : List PinNet) (w : PinNet) → NoneWants (word_fault nets consts pins before w)
unfolding word_fault
word_none_wants nets consts pins before w = by (not (list_any (bytes_eq w.pin) pins)) (list_any (λ b. bytes_eq w.pin b.pin) before) (is_none (ref_of nets consts w.net))
  where
    by : (a b c : Bool) → NoneWants (if a then Some UnknownPin else if b then Some BadPins else if c then Some UnknownNet else None)
    by true b c = λ h. cc
    by false true c = λ h. cc
    by false false true = λ h. cc
    by false false false = tt

pins_none_want : (nets consts pins : List (List ℕ)) (before words : List PinNet) → NoneWants (pin_fault nets consts pins before words)
unfolding pin_fault
pins_none_want nets consts pins before [] = tt
pins_none_want nets consts pins before (w ∷ ws) =
    or_else_none_wants (word_fault nets consts pins before w) _ (word_none_wants nets consts pins before w) (pins_none_want nets consts pins (before ++ w ∷ []) ws)

output_none_wants : (insts : List Instance) (r : NetRef) → NoneWants (output_fault insts r)
output_none_wants insts (Const k) = λ h. cc
output_none_wants insts (Net n) = by (driver_of insts n)
  where
    by : (o : Option ℕ) → NoneWants (option_and_then (λ d. Some (DriverTaken (d + 1))) o)
    by None = tt
    by (Some k) = λ h. cc

add_inst_of_no_want : (c : Circuit) (name : List ℕ) (at : ℕ) (k : Cell) (words : List PinNet) → NoWant (add_inst_of c name at k words)
unfolding add_inst_of
add_inst_of_no_want c name at k words =
    unless_fault_no_want (pin_fault c.nets c.consts (k.inputs ++ k.output ∷ []) [] words) _ (pins_none_want c.nets c.consts (k.inputs ++ k.output ∷ []) [] words)
    (bind_no_want _ _ (or_fault_no_want BadPins (wires_of c.nets c.consts words [] k.inputs) (λ h. cc)) (λ inputs.
    bind_no_want _ _ (or_fault_no_want BadPins (wire_of c.nets c.consts words k.output) (λ h. cc)) (λ output.
    unless_fault_no_want (output_fault c.insts output) _ (output_none_wants c.insts output) tt)))

add_inst_no_want : (library : List Cell) (c : Circuit) (name cell : List ℕ) (words : List PinNet) → NoWant (add_inst library c name cell words)
unfolding add_inst
add_inst_no_want library c name cell words =
    unless_no_want (not (is_name name)) BadName _ (λ h. cc)
    (unless_no_want (is_some (inst_of c.insts name)) NameTaken _ (λ h. cc)
    (bind_no_want _ _ (or_fault_no_want UnknownCell (position (λ k. bytes_eq cell k.name) library) (λ h. cc)) (λ at.
    bind_no_want _ _ (or_fault_no_want UnknownCell (slice_get library at) (λ h. cc)) (λ k. add_inst_of_no_want c name at k words))))

arc_no_want : (k : Cell) (pin : List ℕ) → NoWant (arc_of k pin)
unfolding arc_of
arc_no_want k pin =
    bind_no_want _ _ (or_fault_no_want UnknownPin (place_of pin (k.inputs ++ k.output ∷ [])) (λ h. cc))
    (λ from. or_fault_no_want NoArc (position (λ a. a.from == from) k.arcs) (λ h. cc))

set_delay_no_want : (library : List Cell) (c : Circuit) (inst pin : List ℕ) (rise fall : ℕ) → NoWant (set_delay library c inst pin rise fall)
unfolding set_delay
set_delay_no_want library c inst pin rise fall =
    bind_no_want _ _ (or_fault_no_want UnknownInst (inst_of c.insts inst) (λ h. cc)) (λ at.
    bind_no_want _ _ (or_fault_no_want UnknownCell (cell_at library c.insts at) (λ h. cc)) (λ k.
    bind_no_want _ _ (arc_no_want k pin) (λ arc.
    unless_no_want (nat_lt 1000000 rise) (OutOfRange rise) _ (λ h. cc)
    (unless_no_want (nat_lt 1000000 fall) (OutOfRange fall) _ (λ h. cc) tt))))

tick_no_want : (c : Circuit) (source target count : ℕ) (zero : Bool) → NoWant (if zero then end_tick c source target else start_tick c source target count)
unfolding end_tick start_tick
tick_no_want c source target count true = unless_no_want (is_none (tick_of c.ticks source target)) (OutOfRange 0) _ (λ h. cc) tt
tick_no_want c source target count false = unless_no_want (is_some (tick_of c.ticks source target)) TickTaken _ (λ h. cc) tt

set_tick_no_want : (c : Circuit) (source target : EventName) (count : ℕ) → NoWant (set_tick c source target count)
unfolding set_tick
set_tick_no_want c source target count =
    bind_no_want _ _ (or_fault_no_want UnknownEvent (event_of c.nets source) (λ h. cc)) (λ s.
    bind_no_want _ _ (or_fault_no_want UnknownEvent (event_of c.nets target) (λ h. cc)) (λ t.
    unless_no_want (nat_lt 15 count) (OutOfRange count) _ (λ h. cc) (tick_no_want c s t count (count == 0))))

set_root_no_want : (c : Circuit) (event : EventName) (again : Bool) → NoWant (set_root c event again)
unfolding set_root
set_root_no_want c event again =
    bind_no_want _ _ (or_fault_no_want UnknownEvent (event_of c.nets event) (λ h. cc)) (λ r.
    unless_no_want (not again && is_some c.root) RootTaken _ (λ h. cc) tt)

add_fork_of_no_want : (c : Circuit) (f : Fork) → NoWant (add_fork_of c f)
unfolding add_fork_of
add_fork_of_no_want c f =
    unless_no_want (nat_lt 1000000 f.margin) (OutOfRange f.margin) _ (λ h. cc)
    (unless_no_want (nat_lt 15 f.offset) (OutOfRange f.offset) _ (λ h. cc)
    (unless_no_want (nat_le 256 (length c.forks)) (TooMany Forks) _ (λ h. cc)
    (unless_no_want (not (list_any (λ r. f.root == r) (roots_of c.forks)) && nat_le 64 (length (roots_of c.forks))) (TooMany Roots) _ (λ h. cc) tt)))

add_fork_no_want : (c : Circuit) (name : List ℕ) (root fast slow : EventName) (margin offset : ℕ) → NoWant (add_fork c name root fast slow margin offset)
unfolding add_fork
add_fork_no_want c name root fast slow margin offset =
    unless_no_want (not (is_name name)) BadName _ (λ h. cc)
    (unless_no_want (is_some (fork_of c.forks name)) ForkTaken _ (λ h. cc)
    (bind_no_want _ _ (or_fault_no_want UnknownEvent (event_of c.nets root) (λ h. cc)) (λ r.
    bind_no_want _ _ (or_fault_no_want UnknownEvent (event_of c.nets fast) (λ h. cc)) (λ a.
    bind_no_want _ _ (or_fault_no_want UnknownEvent (event_of c.nets slow) (λ h. cc)) (λ b.
    add_fork_of_no_want c (record { name = name; root = r; fast = a; slow = b; margin = margin; offset = offset }))))))

del_inst_no_want : (c : Circuit) (name : List ℕ) → NoWant (del_inst c name)
unfolding del_inst
del_inst_no_want c name = bind_no_want _ _ (or_fault_no_want UnknownInst (inst_of c.insts name) (λ h. cc)) (λ at. tt)

del_fork_no_want : (c : Circuit) (name : List ℕ) → NoWant (del_fork c name)
unfolding del_fork
del_fork_no_want c name = bind_no_want _ _ (or_fault_no_want UnknownFork (fork_of c.forks name) (λ h. cc)) (λ at. tt)

del_net_no_want : (c : Circuit) (name : List ℕ) → NoWant (del_net c name)
unfolding del_net
del_net_no_want c name =
    bind_no_want _ _ (or_fault_no_want UnknownNet (ref_of c.nets c.consts name) (λ h. cc)) (λ r.
    unless_no_want (is_used c r) StillUsed _ (λ h. cc) tt)

moved_none_wants : (insts : List Instance) (at p count : ℕ) (r : NetRef) → NoneWants (if p == count then moved_output_fault insts at r else None)
moved_none_wants insts at p count r = by (p == count) r
  where
    free : (b : Bool) (d : ℕ) → NoneWants (if b then None else Some (DriverTaken (d + 1)))
    free true d = tt
    free false d = λ h. cc

    driven : (o : Option ℕ) → NoneWants (option_and_then (λ d. if d == at then None else Some (DriverTaken (d + 1))) o)
    driven None = tt
    driven (Some d) = free (d == at) d

    by : (b : Bool) (r : NetRef) → NoneWants (if b then moved_output_fault insts at r else None)
    by true (Const k) = λ h. cc
    by true (Net n) = driven (driver_of insts n)
    by false r = tt

move_pin_no_want : (library : List Cell) (c : Circuit) (inst pin net : List ℕ) → NoWant (move_pin library c inst pin net)
unfolding move_pin
move_pin_no_want library c inst pin net =
    bind_no_want _ _ (or_fault_no_want UnknownInst (inst_of c.insts inst) (λ h. cc)) (λ at.
    bind_no_want _ _ (or_fault_no_want UnknownCell (cell_at library c.insts at) (λ h. cc)) (λ k.
    bind_no_want _ _ (or_fault_no_want UnknownPin (place_of pin (k.inputs ++ k.output ∷ [])) (λ h. cc)) (λ p.
    bind_no_want _ _ (or_fault_no_want UnknownNet (ref_of c.nets c.consts net) (λ h. cc)) (λ r.
    unless_fault_no_want (if p == length k.inputs then moved_output_fault c.insts at r else None) _ (moved_none_wants c.insts at p (length k.inputs) r) tt))))

swap_cell_no_want : (library : List Cell) (c : Circuit) (inst cell : List ℕ) → NoWant (swap_cell library c inst cell)
unfolding swap_cell
swap_cell_no_want library c inst cell =
    bind_no_want _ _ (or_fault_no_want UnknownInst (inst_of c.insts inst) (λ h. cc)) (λ at.
    bind_no_want _ _ (or_fault_no_want UnknownCell (cell_at library c.insts at) (λ h. cc)) (λ old.
    bind_no_want _ _ (or_fault_no_want UnknownCell (position (λ k. bytes_eq cell k.name) library) (λ h. cc)) (λ to.
    bind_no_want _ _ (or_fault_no_want UnknownCell (slice_get library to) (λ h. cc)) (λ new.
    unless_no_want (not (has_pins_of old new)) BadPins _ (λ h. cc) tt))))

made_no_want : (library : List Cell) (c : Circuit) (e : Edit) → NoWant (made library c e)
made_no_want library c (edit.Net name) = add_net_no_want c name
made_no_want library c (edit.Const name) = add_const_no_want c name
made_no_want library c (edit.Inst i) = add_inst_no_want library c i.name i.cell i.pins
made_no_want library c (edit.DelInst name) = del_inst_no_want c name
made_no_want library c (edit.DelNet name) = del_net_no_want c name
made_no_want library c (edit.Move m) = move_pin_no_want library c m.inst m.pin m.net
made_no_want library c (edit.Swap s) = swap_cell_no_want library c s.inst s.cell
made_no_want library c (edit.DelFork name) = del_fork_no_want c name
made_no_want library c (edit.Delay d) = set_delay_no_want library c d.inst d.pin d.rise d.fall
made_no_want library c (edit.Tick t) = set_tick_no_want c t.source t.target t.count
made_no_want library c (edit.Root event) = set_root_no_want c event true
made_no_want library c (edit.Fork f) = add_fork_no_want c f.name f.root f.fast f.slow f.margin f.offset

pub never_memory : (library : List Cell) (c : Circuit) (e : Edit) → made library c e ≢ Err Memory
never_memory library c e h = subst NoWant h (made_no_want library c e) refl
