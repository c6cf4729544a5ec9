-- Each statement keeps what holds of every netlist, and keeps a netlist that fits a library so.
use Rattle.std.proofs.Common.{◌≡◌, ℕ, ◌+◌, ◌*◌, ◌<◌, ◌≤◌, ◌==◌, ◌&&◌, not, List, [], ◌∷◌, ◌++◌, length, map, find, Bool, true, false, nat_lt, nat_le, Option, Some, None, is_some, is_none, option_map, option_and_then, position, slice_get, Result, Ok, Err, refl, sym, ap, subst, ◌∙◌, arith, All, if◌then◌else◌, filter}
use Rattle.std.specs.List.{list_any, remove}
use Rattle.std.specs.Str.{bytes_eq}
use Rattle.std.proofs.lemmas.Bool.Decides.{nat_tests}
use Rattle.std.proofs.lemmas.List.{length_push, length-map}
use Rattle.std.proofs.lemmas.List.Elements.{All-nil, All-push}
use Rattle.cyc_text.specs.Name.{is_name}
use Rattle.cyc_text.specs.declared.limits.Limit.TheVariants.{Nets, Consts, Forks, Roots}
use Rattle.cell_arcs.specs.declared.cells.Cell.{Cell}
use Rattle.cell_arcs.specs.Steps.{or_else, or_fault, unless_fault, ◌>>=◌}
use Rattle.netlist_model.specs.Circuit.{Circuit, place_of, ref_of, event_at, event_of, inst_of, fork_of, driver_of, is_between, tick_of, roots_of}
use Rattle.netlist_model.specs.Deletions.{is_used, after_ref, del_inst, del_net, del_fork}
use Rattle.netlist_model.specs.Edits.{made}
use Rattle.netlist_model.specs.Sound.{IsPin, IsTick, IsNetlist, Fits}
use Rattle.netlist_model.specs.Statements.{unless, is_ref, add_net, add_const, pin_fault, wire_of, wires_of, output_fault, add_inst_of, add_inst, arc_of, cell_at, moved_output_fault, with_pin, move_pin, has_pins_of, with_cell, swap_cell, set_delay, end_tick, start_tick, set_tick, set_root, add_fork_of, add_fork}
use Rattle.netlist_model.specs.declared.edits.Edit.{Edit}
use Rattle.netlist_model.specs.declared.edits.Edit.TheVariants as edit
use Rattle.netlist_model.specs.declared.faults.StatementFault.{StatementFault}
use Rattle.netlist_model.specs.declared.faults.StatementFault.TheVariants.{BadName, NameTaken, UnknownNet, UnknownPin, UnknownFork, StillUsed, UnknownInst, UnknownCell, BadPins, OutOfRange, TickTaken, UnknownEvent, RootTaken, ForkTaken, TooMany}
use Rattle.netlist_model.specs.declared.parts.EventName.{EventName}
use Rattle.netlist_model.specs.declared.parts.Fork.{Fork}
use Rattle.netlist_model.specs.declared.parts.Instance.{Instance}
use Rattle.netlist_model.specs.declared.parts.NetRef.{NetRef}
use Rattle.netlist_model.specs.declared.parts.NetRef.TheVariants.{Net, Const}
use Rattle.netlist_model.specs.declared.parts.PinNet.{PinNet}
use Rattle.netlist_model.proofs.Deleted.{inst_removed, fits_remove, fork_removed, const_removed, net_removed, fits_after}
use Rattle.netlist_model.proofs.Moved.{pin_moved, fits_moved, cell_swapped, fits_swapped}
use Rattle.netlist_model.proofs.InstanceLemmas.{last_push, instance_sound, fits_push, delay_set, fits_delay}
use Rattle.netlist_model.proofs.Places.{position_within}
use Rattle.netlist_model.proofs.Soundness.{net_added, const_added, tick_added, tick_ended, root_set, fork_added, roots_fit, inst_added}

-- ---- steps that are not refused

pub bind_ok : {A B : Type 0} (r : Result A StatementFault) (f : A → Result B StatementFault) (y : B) → r >>= f ≡ Ok y → (x : A) × (r ≡ Ok x) × (f x ≡ Ok y)
bind_ok (Ok x) f y h = (x, refl, h)
bind_ok (Err e) f y h = cc

pub or_fault_ok : {A : Type 0} (e : StatementFault) (o : Option A) (x : A) → or_fault e o ≡ Ok x → o ≡ Some x
or_fault_ok e None x h = cc
or_fault_ok e (Some y) x h = cc

pub unless_ok : {A : Type 0} (b : Bool) (e : StatementFault) (r : Result A StatementFault) (x : A) → unless b e r ≡ Ok x → (b ≡ false) × (r ≡ Ok x)
unless_ok true e r x h = cc
unless_ok false e r x h = (refl, h)

pub unless_fault_ok : {A : Type 0} (o : Option StatementFault) (r : Result A StatementFault) (x : A) → unless_fault o r ≡ Ok x → (o ≡ None) × (r ≡ Ok x)
unless_fault_ok None r x h = (refl, h)
unless_fault_ok (Some e) r x h = cc

not_false : (b : Bool) → not b ≡ false → b ≡ true
not_false true h = refl
not_false false h = cc

pub none_there : {A : Type 0} (o : Option A) → is_some o ≡ false → o ≡ None
none_there None h = refl
none_there (Some x) h = cc

map_some : {A B : Type 0} (f : A → B) (o : Option A) (y : B) → option_map f o ≡ Some y → (x : A) × (o ≡ Some x) × (f x ≡ y)
map_some f None y h = cc
map_some f (Some x) y h = (x, refl, cc)

bind_some : {A B : Type 0} (f : A → Option B) (o : Option A) (y : B) → option_and_then f o ≡ Some y → (x : A) × (o ≡ Some x) × (f x ≡ Some y)
bind_some f None y h = cc
bind_some f (Some x) y h = (x, refl, h)

-- ---- nets, constants, the root, ticks and forks

-- what holds of every netlist is kept, and the instances are as before
abbrev KeepsInsts : Circuit → Circuit → Type 0
KeepsInsts c d = (IsNetlist c → IsNetlist d) × (d.insts ≡ c.insts)

add_net_keeps : (c d : Circuit) (name : List ℕ) → add_net c name ≡ Ok d → KeepsInsts c d
unfolding add_net
add_net_keeps c d name h =
    let (named, h1) = unless_ok (not (is_name name)) BadName _ d h in
    let (fresh, h2) = unless_ok (is_ref c name) NameTaken _ d h1 in
    let (room, h3) = unless_ok (nat_le 16384 (length c.nets)) (TooMany Nets) _ d h2 in
    let few : length c.nets < 16384 = grind (arith, nat_tests) in
    let e : record c { nets = c.nets ++ name ∷ [] } ≡ d = cc in
    subst (KeepsInsts c) e ((λ s. net_added c name s (not_false (is_name name) named) fresh few), refl)

add_const_keeps : (c d : Circuit) (name : List ℕ) → add_const c name ≡ Ok d → KeepsInsts c d
unfolding add_const
add_const_keeps c d name h =
    let (named, h1) = unless_ok (not (is_name name)) BadName _ d h in
    let (fresh, h2) = unless_ok (is_ref c name) NameTaken _ d h1 in
    let (room, h3) = unless_ok (nat_le 1024 (length c.consts)) (TooMany Consts) _ d h2 in
    let few : length c.consts < 1024 = grind (arith, nat_tests) in
    let e : record c { consts = c.consts ++ name ∷ [] } ≡ d = cc in
    subst (KeepsInsts c) e ((λ s. const_added c name s (not_false (is_name name) named) fresh few), refl)

event_within : (nets : List (List ℕ)) (e : EventName) (r : ℕ) → event_of nets e ≡ Some r → r < 2 * length nets
event_within nets e r h =
    let (k, at, is) = map_some (event_at e.rising) (place_of e.net nets) r h in
    by e.rising k (position_within (bytes_eq e.net) nets k at) is
  where
    by : (b : Bool) (k : ℕ) → k < length nets → event_at b k ≡ r → r < 2 * length nets
    by true k low is = omega (arith, low, is)
    by false k low is = omega (arith, low, is)

set_root_keeps : (c d : Circuit) (event : EventName) (again : Bool) → set_root c event again ≡ Ok d → KeepsInsts c d
unfolding set_root
set_root_keeps c d event again h =
    let (r, is, h1) = bind_ok (or_fault UnknownEvent (event_of c.nets event)) _ d h in
    let (_, h2) = unless_ok (not again && is_some c.root) RootTaken _ d h1 in
    let e : record c { root = Some r } ≡ d = cc in
    subst (KeepsInsts c) e ((λ s. root_set c r s (event_within c.nets event r (or_fault_ok UnknownEvent (event_of c.nets event) r is))), refl)

end_tick_keeps : (c d : Circuit) (source target : ℕ) → end_tick c source target ≡ Ok d → KeepsInsts c d
unfolding end_tick
end_tick_keeps c d source target h =
    let (_, h1) = unless_ok (is_none (tick_of c.ticks source target)) (OutOfRange 0) _ d h in
    let e : record c { ticks = filter (λ t. not (is_between source target t)) c.ticks } ≡ d = cc in
    subst (KeepsInsts c) e ((λ s. tick_ended c (λ t. not (is_between source target t)) s), refl)

start_tick_keeps : (c d : Circuit) (source target count : ℕ) → IsTick (length c.nets) (record { source = source; target = target; count = count })
    → start_tick c source target count ≡ Ok d → KeepsInsts c d
unfolding start_tick
start_tick_keeps c d source target count good h =
    let (fresh, h1) = unless_ok (is_some (tick_of c.ticks source target)) TickTaken _ d h in
    let e : record c { ticks = c.ticks ++ record { source = source; target = target; count = count } ∷ [] } ≡ d = cc in
    subst (KeepsInsts c) e ((λ s. tick_added c (record { source = source; target = target; count = count }) s good fresh), refl)

set_tick_keeps : (c d : Circuit) (source target : EventName) (count : ℕ) → set_tick c source target count ≡ Ok d → KeepsInsts c d
unfolding set_tick
set_tick_keeps c d source target count h =
    let (a, from, h1) = bind_ok (or_fault UnknownEvent (event_of c.nets source)) _ d h in
    let (b, to, h2) = bind_ok (or_fault UnknownEvent (event_of c.nets target)) _ d h1 in
    let (few, h3) = unless_ok (nat_lt 15 count) (OutOfRange count) _ d h2 in
    let low = event_within c.nets source a (or_fault_ok UnknownEvent (event_of c.nets source) a from) in
    let high = event_within c.nets target b (or_fault_ok UnknownEvent (event_of c.nets target) b to) in
    by a b low high few (count == 0) refl h3
  where
    by : (a b : ℕ) → a < 2 * length c.nets → b < 2 * length c.nets → nat_lt 15 count ≡ false → (zero : Bool) → (count == 0) ≡ zero
        → (if zero then end_tick c a b else start_tick c a b count) ≡ Ok d → KeepsInsts c d
    by a b low high few true is f = end_tick_keeps c d a b f
    by a b low high few false is f =
        let some : 1 ≤ count = grind (arith, nat_tests) in
        let most : count ≤ 15 = grind (arith, nat_tests) in
        start_tick_keeps c d a b count (record { source = low; target = high; some = some; few = most }) f

add_fork_of_keeps : (c d : Circuit) (f : Fork) → is_name f.name ≡ true → fork_of c.forks f.name ≡ None
    → f.root < 2 * length c.nets → f.fast < 2 * length c.nets → f.slow < 2 * length c.nets → add_fork_of c f ≡ Ok d → KeepsInsts c d
unfolding add_fork_of
add_fork_of_keeps c d f named fresh root fast slow h =
    let (margin, h1) = unless_ok (nat_lt 1000000 f.margin) (OutOfRange f.margin) _ d h in
    let (offset, h2) = unless_ok (nat_lt 15 f.offset) (OutOfRange f.offset) _ d h1 in
    let (room, h3) = unless_ok (nat_le 256 (length c.forks)) (TooMany Forks) _ d h2 in
    let (roots, h4) = unless_ok (not (list_any (λ r. f.root == r) (roots_of c.forks)) && nat_le 64 (length (roots_of c.forks))) (TooMany Roots) _ d h3 in
    let e : record c { forks = c.forks ++ f ∷ [] } ≡ d = cc in
    let small : f.margin ≤ 1000000 = grind (arith, nat_tests) in
    let near : f.offset ≤ 15 = grind (arith, nat_tests) in
    let few : length c.forks < 256 = grind (arith, nat_tests) in
    subst (KeepsInsts c) e
    ((λ s. fork_added c f s (record { named = named; root = root; fast = fast; slow = slow; margin = small; offset = near }) fresh few (roots_fit c.forks f s.few_roots roots)), refl)

add_fork_keeps : (c d : Circuit) (name : List ℕ) (root fast slow : EventName) (margin offset : ℕ) → add_fork c name root fast slow margin offset ≡ Ok d → KeepsInsts c d
unfolding add_fork
add_fork_keeps c d name root fast slow margin offset h =
    let (named, h1) = unless_ok (not (is_name name)) BadName _ d h in
    let (fresh, h2) = unless_ok (is_some (fork_of c.forks name)) ForkTaken _ d h1 in
    let (r, at, h3) = bind_ok (or_fault UnknownEvent (event_of c.nets root)) _ d h2 in
    let (a, first, h4) = bind_ok (or_fault UnknownEvent (event_of c.nets fast)) _ d h3 in
    let (b, second, h5) = bind_ok (or_fault UnknownEvent (event_of c.nets slow)) _ d h4 in
    add_fork_of_keeps c d (record { name = name; root = r; fast = a; slow = b; margin = margin; offset = offset }) (not_false (is_name name) named) (none_there (fork_of c.forks name) fresh)
    (event_within c.nets root r (or_fault_ok UnknownEvent (event_of c.nets root) r at))
    (event_within c.nets fast a (or_fault_ok UnknownEvent (event_of c.nets fast) a first))
    (event_within c.nets slow b (or_fault_ok UnknownEvent (event_of c.nets slow) b second)) h5

-- ---- instances and their delays

-- what holds of every netlist is kept, and the fit
abbrev Keeps : List Cell → Circuit → Circuit → Type 0
Keeps library c d = (IsNetlist c → IsNetlist d) × (Fits library c.insts → Fits library d.insts)

ref_within : (nets consts : List (List ℕ)) (name : List ℕ) (r : NetRef) → ref_of nets consts name ≡ Some r → IsPin (length nets) (length consts) r
ref_within nets consts name r h = by (place_of name nets) (place_of name consts) refl refl h
  where
    by : (a b : Option ℕ) → place_of name nets ≡ a → place_of name consts ≡ b → or_else (option_map Net a) (option_map Const b) ≡ Some r → IsPin (length nets) (length consts) r
    by (Some k) b p q e = let same : Net k ≡ r = cc in subst (IsPin (length nets) (length consts)) same (position_within (bytes_eq name) nets k p)
    by None (Some k) p q e = let same : Const k ≡ r = cc in subst (IsPin (length nets) (length consts)) same (position_within (bytes_eq name) consts k q)
    by None None p q e = cc

wire_within : (nets consts : List (List ℕ)) (words : List PinNet) (pin : List ℕ) (r : NetRef) → wire_of nets consts words pin ≡ Some r → IsPin (length nets) (length consts) r
wire_within nets consts words pin r h =
    let (w, _, is) = bind_some (λ (w : PinNet). ref_of nets consts w.net) (find (λ w. bytes_eq pin w.pin) words) r h in
    ref_within nets consts w.net r is

wires_within : (nets consts : List (List ℕ)) (words : List PinNet) (done : List NetRef) (pins : List (List ℕ)) (refs : List NetRef) → All (IsPin (length nets) (length consts)) done
    → wires_of nets consts words done pins ≡ Some refs → All (IsPin (length nets) (length consts)) refs × (length refs ≡ length done + length pins)
unfolding wires_of
wires_within nets consts words done [] refs good h =
    let same : done ≡ refs = cc in
    subst (λ (rs : List NetRef). All (IsPin (length nets) (length consts)) rs × (length rs ≡ length done + 0)) same (good, omega arith)
wires_within nets consts words done (p ∷ ps) refs good h =
    let (r, is, more) = bind_some (λ (r : NetRef). wires_of nets consts words (done ++ r ∷ []) ps) (wire_of nets consts words p) refs h in
    let (each, count) = wires_within nets consts words (done ++ r ∷ []) ps refs (All-push (IsPin (length nets) (length consts)) done r good (wire_within nets consts words p r is)) more in
    (each, omega (arith, count, length_push done r))

-- an output that may be on what it is on is on a net that none drives
free_output : (insts : List Instance) (r : NetRef) → output_fault insts r ≡ None → (z : ℕ) × (r ≡ Net z) × (driver_of insts z ≡ None)
free_output insts (Const k) h = cc
free_output insts (Net n) h = by (driver_of insts n) refl h
  where
    by : (o : Option ℕ) → driver_of insts n ≡ o → output_fault insts (Net n) ≡ None → (z : ℕ) × (Net n ≡ Net z) × (driver_of insts z ≡ None)
    by None e f = (n, refl, e)
    by (Some k) e f = let g : Some _ ≡ None = rw e at f in cc

add_inst_of_keeps : (library : List Cell) (c d : Circuit) (name : List ℕ) (at : ℕ) (k : Cell) (words : List PinNet) → is_name name ≡ true → inst_of c.insts name ≡ None → slice_get library at ≡ Some k → add_inst_of c name at k words ≡ Ok d → Keeps library c d
unfolding add_inst_of
add_inst_of_keeps library c d name at k words named fresh is h =
    let (_, h1) = unless_fault_ok (pin_fault c.nets c.consts (k.inputs ++ k.output ∷ []) [] words) _ d h in
    let (inputs, wired, h2) = bind_ok (or_fault BadPins (wires_of c.nets c.consts words [] k.inputs)) _ d h1 in
    let (output, out, h3) = bind_ok (or_fault BadPins (wire_of c.nets c.consts words k.output)) _ d h2 in
    let (free, h4) = unless_fault_ok (output_fault c.insts output) _ d h3 in
    let (z, net, none) = free_output c.insts output free in
    let (each, count) = wires_within c.nets c.consts words [] k.inputs inputs (All-nil (IsPin (length c.nets) (length c.consts))) (or_fault_ok BadPins (wires_of c.nets c.consts words [] k.inputs) inputs wired) in
    let pin = wire_within c.nets c.consts words k.output output (or_fault_ok BadPins (wire_of c.nets c.consts words k.output) output out) in
    let i : Instance = record { name = name; cell = at; pins = inputs ++ output ∷ []; delays = map (λ _. None) k.arcs } in
    let good = instance_sound (length c.nets) (length c.consts) at z name inputs output k.arcs named each pin net in
    let e : record c { insts = c.insts ++ i ∷ [] } ≡ d = cc in
    subst (Keeps library c) e (
      (λ s. inst_added c i z s good fresh (last_push inputs output ∙ ap Some net) none),
      (λ fits. fits_push library c.insts i k fits is (record { pins = omega (arith, count, length_push inputs output); delays = length-map k.arcs (λ _. None) })),
    )

add_inst_keeps : (library : List Cell) (c d : Circuit) (name cell : List ℕ) (words : List PinNet) → add_inst library c name cell words ≡ Ok d → Keeps library c d
unfolding add_inst
add_inst_keeps library c d name cell words h =
    let (named, h1) = unless_ok (not (is_name name)) BadName _ d h in
    let (fresh, h2) = unless_ok (is_some (inst_of c.insts name)) NameTaken _ d h1 in
    let (at, _, h3) = bind_ok (or_fault UnknownCell (position (λ k. bytes_eq cell k.name) library)) _ d h2 in
    let (k, is, h4) = bind_ok (or_fault UnknownCell (slice_get library at)) _ d h3 in
    add_inst_of_keeps library c d name at k words (not_false (is_name name) named) (none_there (inst_of c.insts name) fresh) (or_fault_ok UnknownCell (slice_get library at) k is) h4

set_delay_keeps : (library : List Cell) (c d : Circuit) (inst pin : List ℕ) (rise fall : ℕ) → set_delay library c inst pin rise fall ≡ Ok d → Keeps library c d
unfolding set_delay
set_delay_keeps library c d inst pin rise fall h =
    let (at, _, h1) = bind_ok (or_fault UnknownInst (inst_of c.insts inst)) _ d h in
    let (k, _, h2) = bind_ok (or_fault UnknownCell (cell_at library c.insts at)) _ d h1 in
    let (arc, _, h3) = bind_ok (arc_of k pin) _ d h2 in
    let (r, h4) = unless_ok (nat_lt 1000000 rise) (OutOfRange rise) _ d h3 in
    let (f, h5) = unless_ok (nat_lt 1000000 fall) (OutOfRange fall) _ d h4 in
    let low : rise ≤ 1000000 = grind (arith, nat_tests) in
    let high : fall ≤ 1000000 = grind (arith, nat_tests) in
    let e : _ ≡ d = cc in
    subst (Keeps library c) e ((λ s. delay_set c at arc rise fall s low high), (λ fits. fits_delay library c.insts at arc rise fall fits))

-- ---- statements that take something away

pub del_inst_sound : (c d : Circuit) (name : List ℕ) → IsNetlist c → del_inst c name ≡ Ok d → IsNetlist d
unfolding del_inst
del_inst_sound c d name s h =
    let (at, _, h1) = bind_ok (or_fault UnknownInst (inst_of c.insts name)) _ d h in
    let e : record c { insts = remove c.insts at } ≡ d = cc in
    subst IsNetlist e (inst_removed c at s)

pub del_inst_fits : (library : List Cell) (c d : Circuit) (name : List ℕ) → Fits library c.insts → del_inst c name ≡ Ok d → Fits library d.insts
unfolding del_inst
del_inst_fits library c d name fits h =
    let (at, _, h1) = bind_ok (or_fault UnknownInst (inst_of c.insts name)) _ d h in
    let e : record c { insts = remove c.insts at } ≡ d = cc in
    subst (λ (x : Circuit). Fits library x.insts) e (fits_remove library c.insts at fits)

pub del_fork_sound : (c d : Circuit) (name : List ℕ) → IsNetlist c → del_fork c name ≡ Ok d → IsNetlist d
unfolding del_fork
del_fork_sound c d name s h =
    let (at, is, h1) = bind_ok (or_fault UnknownFork (fork_of c.forks name)) _ d h in
    let e : record c { forks = remove c.forks at } ≡ d = cc in
    let low = position_within (λ f. bytes_eq name f.name) c.forks at (or_fault_ok UnknownFork (fork_of c.forks name) at is) in
    subst IsNetlist e (fork_removed c at low s)

pub del_fork_insts : (c d : Circuit) (name : List ℕ) → del_fork c name ≡ Ok d → d.insts ≡ c.insts
unfolding del_fork
del_fork_insts c d name h =
    let (at, _, h1) = bind_ok (or_fault UnknownFork (fork_of c.forks name)) _ d h in
    let e : record c { forks = remove c.forks at } ≡ d = cc in
    ap (λ (x : Circuit). x.insts) (sym e)

pub del_net_sound : (c d : Circuit) (name : List ℕ) → IsNetlist c → del_net c name ≡ Ok d → IsNetlist d
unfolding del_net
del_net_sound c d name s h =
    let (r, is, h1) = bind_ok (or_fault UnknownNet (ref_of c.nets c.consts name)) _ d h in
    let (free, h2) = unless_ok (is_used c r) StillUsed _ d h1 in
    let e : after_ref c r ≡ d = cc in
    subst IsNetlist e (by r (ref_within c.nets c.consts name r (or_fault_ok UnknownNet (ref_of c.nets c.consts name) r is)) free)
  where
    by : (r : NetRef) → IsPin (length c.nets) (length c.consts) r → is_used c r ≡ false → IsNetlist (after_ref c r)
    by (Net n) low free = net_removed c n low free s
    by (Const k) low free = const_removed c k low free s

pub del_net_fits : (library : List Cell) (c d : Circuit) (name : List ℕ) → Fits library c.insts → del_net c name ≡ Ok d → Fits library d.insts
unfolding del_net
del_net_fits library c d name fits h =
    let (r, _, h1) = bind_ok (or_fault UnknownNet (ref_of c.nets c.consts name)) _ d h in
    let (_, h2) = unless_ok (is_used c r) StillUsed _ d h1 in
    let e : after_ref c r ≡ d = cc in
    subst (λ (x : Circuit). Fits library x.insts) e (by r)
  where
    by : (r : NetRef) → Fits library (after_ref c r).insts
    by (Net n) = fits_after library (Net n) c.insts fits
    by (Const k) = fits_after library (Const k) c.insts fits

-- ---- pins that move, instances of other cells

pub move_pin_sound : (library : List Cell) (c d : Circuit) (inst pin net : List ℕ) → IsNetlist c → Fits library c.insts → move_pin library c inst pin net ≡ Ok d → IsNetlist d
unfolding move_pin
move_pin_sound library c d inst pin net s fits h =
    let (at, _, h1) = bind_ok (or_fault UnknownInst (inst_of c.insts inst)) _ d h in
    let (k, kind, h2) = bind_ok (or_fault UnknownCell (cell_at library c.insts at)) _ d h1 in
    let (p, _, h3) = bind_ok (or_fault UnknownPin (place_of pin (k.inputs ++ k.output ∷ []))) _ d h2 in
    let (r, is, h4) = bind_ok (or_fault UnknownNet (ref_of c.nets c.consts net)) _ d h3 in
    let (may, h5) = unless_fault_ok (if p == length k.inputs then moved_output_fault c.insts at r else None) _ d h4 in
    let e : record c { insts = with_pin c.insts at p r } ≡ d = cc in
    subst IsNetlist e (pin_moved library c at p k r s fits (or_fault_ok UnknownCell (cell_at library c.insts at) k kind) (ref_within c.nets c.consts net r (or_fault_ok UnknownNet (ref_of c.nets c.consts net) r is)) may)

pub move_pin_fits : (library : List Cell) (c d : Circuit) (inst pin net : List ℕ) → Fits library c.insts → move_pin library c inst pin net ≡ Ok d → Fits library d.insts
unfolding move_pin
move_pin_fits library c d inst pin net fits h =
    let (at, _, h1) = bind_ok (or_fault UnknownInst (inst_of c.insts inst)) _ d h in
    let (k, _, h2) = bind_ok (or_fault UnknownCell (cell_at library c.insts at)) _ d h1 in
    let (p, _, h3) = bind_ok (or_fault UnknownPin (place_of pin (k.inputs ++ k.output ∷ []))) _ d h2 in
    let (r, _, h4) = bind_ok (or_fault UnknownNet (ref_of c.nets c.consts net)) _ d h3 in
    let (_, h5) = unless_fault_ok (if p == length k.inputs then moved_output_fault c.insts at r else None) _ d h4 in
    let e : record c { insts = with_pin c.insts at p r } ≡ d = cc in
    subst (λ (x : Circuit). Fits library x.insts) e (fits_moved library c.insts at p r fits)

pub swap_cell_sound : (library : List Cell) (c d : Circuit) (inst cell : List ℕ) → IsNetlist c → swap_cell library c inst cell ≡ Ok d → IsNetlist d
unfolding swap_cell
swap_cell_sound library c d inst cell s h =
    let (at, _, h1) = bind_ok (or_fault UnknownInst (inst_of c.insts inst)) _ d h in
    let (old, _, h2) = bind_ok (or_fault UnknownCell (cell_at library c.insts at)) _ d h1 in
    let (to, _, h3) = bind_ok (or_fault UnknownCell (position (λ k. bytes_eq cell k.name) library)) _ d h2 in
    let (new, _, h4) = bind_ok (or_fault UnknownCell (slice_get library to)) _ d h3 in
    let (_, h5) = unless_ok (not (has_pins_of old new)) BadPins _ d h4 in
    let e : record c { insts = with_cell c.insts at to new } ≡ d = cc in
    subst IsNetlist e (cell_swapped c at to new s)

pub swap_cell_fits : (library : List Cell) (c d : Circuit) (inst cell : List ℕ) → Fits library c.insts → swap_cell library c inst cell ≡ Ok d → Fits library d.insts
unfolding swap_cell
swap_cell_fits library c d inst cell fits h =
    let (at, _, h1) = bind_ok (or_fault UnknownInst (inst_of c.insts inst)) _ d h in
    let (old, was, h2) = bind_ok (or_fault UnknownCell (cell_at library c.insts at)) _ d h1 in
    let (to, _, h3) = bind_ok (or_fault UnknownCell (position (λ k. bytes_eq cell k.name) library)) _ d h2 in
    let (new, is, h4) = bind_ok (or_fault UnknownCell (slice_get library to)) _ d h3 in
    let (same, h5) = unless_ok (not (has_pins_of old new)) BadPins _ d h4 in
    let e : record c { insts = with_cell c.insts at to new } ≡ d = cc in
    subst (λ (x : Circuit). Fits library x.insts) e
    (fits_swapped library c.insts at to old new fits (or_fault_ok UnknownCell (cell_at library c.insts at) old was) (or_fault_ok UnknownCell (slice_get library to) new is) same)

-- ---- all of them

with_insts : (library : List Cell) (c d : Circuit) → KeepsInsts c d → Keeps library c d
with_insts library c d h = (h.0, (λ fits. subst (Fits library) (sym h.1) fits))

-- what holds of every netlist is kept by a netlist that fits, and the fit
abbrev KeepsFitting : List Cell → Circuit → Circuit → Type 0
KeepsFitting library c d = (Fits library c.insts → IsNetlist c → IsNetlist d) × (Fits library c.insts → Fits library d.insts)

anyway : (library : List Cell) (c d : Circuit) → Keeps library c d → KeepsFitting library c d
anyway library c d h = ((λ fits s. h.0 s), h.1)

edit_keeps : (library : List Cell) (c d : Circuit) (e : Edit) → made library c e ≡ Ok d → KeepsFitting library c d
edit_keeps library c d (edit.Net name) h = anyway library c d (with_insts library c d (add_net_keeps c d name h))
edit_keeps library c d (edit.Const name) h = anyway library c d (with_insts library c d (add_const_keeps c d name h))
edit_keeps library c d (edit.Inst i) h = anyway library c d (add_inst_keeps library c d i.name i.cell i.pins h)
edit_keeps library c d (edit.DelInst name) h = anyway library c d ((λ s. del_inst_sound c d name s h), (λ fits. del_inst_fits library c d name fits h))
edit_keeps library c d (edit.DelNet name) h = anyway library c d ((λ s. del_net_sound c d name s h), (λ fits. del_net_fits library c d name fits h))
edit_keeps library c d (edit.Move m) h = ((λ fits s. move_pin_sound library c d m.inst m.pin m.net s fits h), (λ fits. move_pin_fits library c d m.inst m.pin m.net fits h))
edit_keeps library c d (edit.Swap x) h = ((λ fits s. swap_cell_sound library c d x.inst x.cell s h), (λ fits. swap_cell_fits library c d x.inst x.cell fits h))
edit_keeps library c d (edit.Delay x) h = anyway library c d (set_delay_keeps library c d x.inst x.pin x.rise x.fall h)
edit_keeps library c d (edit.Tick t) h = anyway library c d (with_insts library c d (set_tick_keeps c d t.source t.target t.count h))
edit_keeps library c d (edit.Root event) h = anyway library c d (with_insts library c d (set_root_keeps c d event true h))
edit_keeps library c d (edit.Fork f) h = anyway library c d (with_insts library c d (add_fork_keeps c d f.name f.root f.fast f.slow f.margin f.offset h))
edit_keeps library c d (edit.DelFork name) h = anyway library c d (with_insts library c d ((λ s. del_fork_sound c d name s h), del_fork_insts c d name h))

pub edits_keep_netlists : (library : List Cell) (c changed : Circuit) (e : Edit) → IsNetlist c → Fits library c.insts → made library c e ≡ Ok changed → IsNetlist changed
edits_keep_netlists library c changed e sound fits is = (edit_keeps library c changed e is).0 fits sound

pub edits_keep_fits : (library : List Cell) (c changed : Circuit) (e : Edit) → Fits library c.insts → made library c e ≡ Ok changed → Fits library changed.insts
edits_keep_fits library c changed e fits is = (edit_keeps library c changed e is).1 fits
