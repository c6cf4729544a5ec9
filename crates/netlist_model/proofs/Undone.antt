-- What was added and is taken away leaves the netlist as it was; what a deletion leaves out.
use Rattle.std.proofs.Common.{◌≡◌, ℕ, ◌+◌, ◌*◌, ◌/◌, ◌<◌, ◌==◌, ◌&&◌, not, List, [], ◌∷◌, ◌++◌, length, map, suc, nat_lt, nat_le, Bool, true, false, Option, Some, None, is_some, option_map, position, slice_get, Ok, refl, sym, ap, subst, ◌∙◌, arith, All, IfSome, if◌then◌else◌}
use Rattle.std.specs.List.{list_any, remove}
use Rattle.std.specs.Option.{option_map_or}
use Rattle.std.specs.Str.{bytes_eq}
use Rattle.std.proofs.lemmas.Bool.Decides.{nat_tests}
use Rattle.std.proofs.lemmas.Cmp.{nat_list_eq_equiv}
use Rattle.std.proofs.lemmas.List.Folds.{list_any_none}
use Rattle.std.proofs.lemmas.List.Elements.{All-weaker, All-head, All-tail}
use Rattle.cyc_text.specs.Name.{is_name}
use Rattle.cyc_text.specs.declared.limits.Limit.TheVariants.{Nets, Consts, Forks, Roots}
use Rattle.cell_arcs.specs.Steps.{or_fault}
use Rattle.cell_arcs.specs.declared.cells.Cell.{Cell}
use Rattle.netlist_model.specs.Circuit.{Circuit, place_of, ref_of, inst_of, fork_of, event_of, roots_of}
use Rattle.netlist_model.specs.Deletions.{is_same, is_pinned, is_event_of, is_ticked, is_forked, is_used, moved_up, ref_after, event_after, inst_after, tick_after, fork_after, after_ref, del_inst, del_net, del_fork}
use Rattle.netlist_model.specs.LeftOut.{IsWithout}
use Rattle.netlist_model.specs.Sound.{IsPin, IsInstance, IsTick, IsFork, IsNetlist}
use Rattle.netlist_model.specs.Statements.{is_ref, add_net, add_const, pin_fault, wires_of, wire_of, output_fault, add_inst_of, add_inst, add_fork_of, add_fork}
use Rattle.netlist_model.specs.declared.faults.StatementFault.TheVariants.{BadName, NameTaken, UnknownInst, UnknownFork, UnknownEvent, UnknownCell, BadPins, ForkTaken, OutOfRange, TooMany}
use Rattle.netlist_model.specs.declared.parts.EventName.{EventName}
use Rattle.netlist_model.specs.declared.parts.Fork.{Fork}
use Rattle.netlist_model.specs.declared.parts.Instance.{Instance}
use Rattle.netlist_model.specs.declared.parts.NetRef.{NetRef}
use Rattle.netlist_model.specs.declared.parts.NetRef.TheVariants.{Net, Const}
use Rattle.netlist_model.specs.declared.parts.PinNet.{PinNet}
use Rattle.netlist_model.specs.declared.parts.Tick.{Tick}
use Rattle.netlist_model.proofs.Kept.{bind_ok, or_fault_ok, unless_ok, unless_fault_ok, none_there}
use Rattle.netlist_model.proofs.Places.{position_push, position-cons}
use Rattle.netlist_model.proofs.Soundness.{ref_none}

-- ---- lists with one more at the end

remove_last : {A : Type 0} (xs : List A) (x : A) → remove (xs ++ x ∷ []) (length xs) ≡ xs
remove_last [] x = refl
remove_last (y ∷ ys) x = ap (λ zs. y ∷ zs) (remove_last ys x)

found_last : {A : Type 0} (p : A → Bool) (xs : List A) (x : A) → position p xs ≡ None → p x ≡ true → position p (xs ++ x ∷ []) ≡ Some (length xs)
found_last p xs x none h = position_push p xs x ∙ rw (none, h) refl

-- a change that leaves each entry as it is
map_still : {A : Type 0} (f : A → A) (P : A → Type 0) → ((x : A) → P x → f x ≡ x) → (xs : List A) → All P xs → map f xs ≡ xs
map_still f P still [] h = refl
map_still f P still (x ∷ xs) h = rw (still x (All-head P x xs h), map_still f P still xs (All-tail P x xs h)) refl

none_of : {A : Type 0} (p : A → Bool) (P : A → Type 0) → ((x : A) → P x → p x ≡ false) → (xs : List A) → All P xs → list_any p xs ≡ false
none_of p P fails xs h = list_any_none p xs (All-weaker P (λ x. p x ≡ false) fails xs h)

-- ---- places below one that is away

moved_none : (gone at : ℕ) → at < gone → moved_up gone at ≡ at
moved_none gone at low = let f : nat_lt gone at ≡ false = grind (arith, nat_tests) in rw f refl

event_none : (gone e : ℕ) → e < 2 * gone → event_after gone e ≡ e
event_none gone e low = let h : e / 2 < gone = omega arith in let m = moved_none gone (e / 2) h in omega (arith, m)

event_free : (gone e : ℕ) → e < 2 * gone → is_event_of gone e ≡ false
event_free gone e low = let h : e / 2 < gone = omega arith in grind (arith, nat_tests)

-- the place behind all nets, or behind all constants
abbrev IsBehind : NetRef → ℕ → ℕ → Type 0
IsBehind (Net g) n k = g ≡ n
IsBehind (Const g) n k = g ≡ k

ref_none_after : (gone : NetRef) (n k : ℕ) → IsBehind gone n k → (r : NetRef) → IsPin n k r → ref_after gone r ≡ r
ref_none_after (Net g) n k b (Net a) low = ap Net (moved_none g a (omega (arith, b, low)))
ref_none_after (Net g) n k b (Const a) low = refl
ref_none_after (Const g) n k b (Net a) low = refl
ref_none_after (Const g) n k b (Const a) low = ap Const (moved_none g a (omega (arith, b, low)))

ref_free : (gone : NetRef) (n k : ℕ) → IsBehind gone n k → (r : NetRef) → IsPin n k r → is_same gone r ≡ false
ref_free (Net g) n k b (Net a) low = grind (arith, nat_tests)
ref_free (Net g) n k b (Const a) low = refl
ref_free (Const g) n k b (Net a) low = refl
ref_free (Const g) n k b (Const a) low = grind (arith, nat_tests)

inst_none : (gone : NetRef) (n k : ℕ) → IsBehind gone n k → (i : Instance) → IsInstance n k i → inst_after gone i ≡ i
inst_none gone n k b i h = ap (λ (ps : List NetRef). record i { pins = ps }) (map_still (ref_after gone) (IsPin n k) (ref_none_after gone n k b) i.pins h.pins)

tick_none : (n : ℕ) (t : Tick) → IsTick n t → tick_after n t ≡ t
tick_none n t h = rw (event_none n t.source h.source, event_none n t.target h.target) refl

fork_none : (n : ℕ) (f : Fork) → IsFork n f → fork_after n f ≡ f
fork_none n f h = rw (event_none n f.root h.root, event_none n f.fast h.fast, event_none n f.slow h.slow) refl

tick_free : (n : ℕ) (t : Tick) → IsTick n t → is_ticked n t ≡ false
tick_free n t h = rw (event_free n t.source h.source, event_free n t.target h.target) refl

fork_free : (n : ℕ) (f : Fork) → IsFork n f → is_forked n f ≡ false
fork_free n f h = rw (event_free n f.root h.root, event_free n f.fast h.fast, event_free n f.slow h.slow) refl

root_none : (n : ℕ) (r : Option ℕ) → IfSome r (λ e. e < 2 * n) → option_map (event_after n) r ≡ r
root_none n None h = refl
root_none n (Some e) h = ap Some (event_none n e h)

root_free : (n : ℕ) (r : Option ℕ) → IfSome r (λ e. e < 2 * n) → option_map_or (is_event_of n) r false ≡ false
root_free n None h = refl
root_free n (Some e) h = event_free n e h

-- ---- nets and constants

pub net_undone : (c d : Circuit) (name : List ℕ) → IsNetlist c → add_net c name ≡ Ok d → del_net d name ≡ Ok c
unfolding add_net del_net
net_undone c d name s h =
    let (_, h1) = unless_ok (not (is_name name)) BadName _ d h in
    let (fresh, h2) = unless_ok (is_ref c name) NameTaken _ d h1 in
    let (_, h3) = unless_ok (nat_le 16384 (length c.nets)) (TooMany Nets) _ d h2 in
    let n = length c.nets in
    let nets : List (List ℕ) = c.nets ++ name ∷ [] in
    let e : record c { nets = nets } ≡ d = cc in
    let absent = ref_none c.nets c.consts name fresh in
    let at : place_of name nets ≡ Some n = found_last (bytes_eq name) c.nets name absent.0 (nat_list_eq_equiv.refl name) in
    let ref : ref_of nets c.consts name ≡ Some (Net n) = rw at refl in
    let free : is_used (record c { nets = nets }) (Net n) ≡ false =
    rw (
      none_of (is_pinned (Net n)) (IsInstance n (length c.consts)) (λ i g. none_of (is_same (Net n)) (IsPin n (length c.consts)) (ref_free (Net n) n (length c.consts) refl) i.pins g.pins) c.insts s.insts,
      none_of (is_ticked n) (IsTick n) (tick_free n) c.ticks s.ticks,
      root_free n c.root s.root,
      none_of (is_forked n) (IsFork n) (fork_free n) c.forks s.forks,
    ) refl in
    let rest : after_ref (record c { nets = nets }) (Net n) ≡ c =
    rw (
      remove_last c.nets name,
      map_still (inst_after (Net n)) (IsInstance n (length c.consts)) (inst_none (Net n) n (length c.consts) refl) c.insts s.insts,
      map_still (tick_after n) (IsTick n) (tick_none n) c.ticks s.ticks,
      root_none n c.root s.root,
      map_still (fork_after n) (IsFork n) (fork_none n) c.forks s.forks,
    ) refl in
    subst (λ (x : Circuit). del_net x name ≡ Ok c) e (rw (ref, free) (ap Ok rest))

pub const_undone : (c d : Circuit) (name : List ℕ) → IsNetlist c → add_const c name ≡ Ok d → del_net d name ≡ Ok c
unfolding add_const del_net
const_undone c d name s h =
    let (_, h1) = unless_ok (not (is_name name)) BadName _ d h in
    let (fresh, h2) = unless_ok (is_ref c name) NameTaken _ d h1 in
    let (_, h3) = unless_ok (nat_le 1024 (length c.consts)) (TooMany Consts) _ d h2 in
    let n = length c.nets in
    let k = length c.consts in
    let consts : List (List ℕ) = c.consts ++ name ∷ [] in
    let e : record c { consts = consts } ≡ d = cc in
    let absent = ref_none c.nets c.consts name fresh in
    let at : place_of name consts ≡ Some k = found_last (bytes_eq name) c.consts name absent.1 (nat_list_eq_equiv.refl name) in
    let ref : ref_of c.nets consts name ≡ Some (Const k) = rw (absent.0, at) refl in
    let free : is_used (record c { consts = consts }) (Const k) ≡ false =
    none_of (is_pinned (Const k)) (IsInstance n k) (λ i g. none_of (is_same (Const k)) (IsPin n k) (ref_free (Const k) n k refl) i.pins g.pins) c.insts s.insts in
    let rest : after_ref (record c { consts = consts }) (Const k) ≡ c =
    rw (remove_last c.consts name, map_still (inst_after (Const k)) (IsInstance n k) (inst_none (Const k) n k refl) c.insts s.insts) refl in
    subst (λ (x : Circuit). del_net x name ≡ Ok c) e (rw (ref, free) (ap Ok rest))

-- ---- instances and forks

pub inst_undone : (library : List Cell) (c d : Circuit) (name cell : List ℕ) (words : List PinNet) → add_inst library c name cell words ≡ Ok d → del_inst d name ≡ Ok c
unfolding add_inst add_inst_of del_inst
inst_undone library c d name cell words h =
    let (_, h1) = unless_ok (not (is_name name)) BadName _ d h in
    let (fresh, h2) = unless_ok (is_some (inst_of c.insts name)) NameTaken _ d h1 in
    let (at, _, h3) = bind_ok (or_fault UnknownCell (position (λ k. bytes_eq cell k.name) library)) _ d h2 in
    let (k, _, h4) = bind_ok (or_fault UnknownCell (slice_get library at)) _ d h3 in
    let (_, h5) = unless_fault_ok (pin_fault c.nets c.consts (k.inputs ++ k.output ∷ []) [] words) _ d h4 in
    let (inputs, _, h6) = bind_ok (or_fault BadPins (wires_of c.nets c.consts words [] k.inputs)) _ d h5 in
    let (output, _, h7) = bind_ok (or_fault BadPins (wire_of c.nets c.consts words k.output)) _ d h6 in
    let (_, h8) = unless_fault_ok (output_fault c.insts output) _ d h7 in
    let i : Instance = record { name = name; cell = at; pins = inputs ++ output ∷ []; delays = map (λ _. None) k.arcs } in
    let e : record c { insts = c.insts ++ i ∷ [] } ≡ d = cc in
    let last : inst_of (c.insts ++ i ∷ []) name ≡ Some (length c.insts) = found_last (λ x. bytes_eq name x.name) c.insts i (none_there (inst_of c.insts name) fresh) (nat_list_eq_equiv.refl name) in
    subst (λ (x : Circuit). del_inst x name ≡ Ok c) e (rw last (ap (λ (is : List Instance). Ok (record c { insts = is })) (remove_last c.insts i)))

fork_of_undone : (c d : Circuit) (f : Fork) → fork_of c.forks f.name ≡ None → add_fork_of c f ≡ Ok d → del_fork d f.name ≡ Ok c
unfolding add_fork_of del_fork
fork_of_undone c d f fresh h =
    let (_, h1) = unless_ok (nat_lt 1000000 f.margin) (OutOfRange f.margin) _ d h in
    let (_, h2) = unless_ok (nat_lt 15 f.offset) (OutOfRange f.offset) _ d h1 in
    let (_, h3) = unless_ok (nat_le 256 (length c.forks)) (TooMany Forks) _ d h2 in
    let (_, h4) = unless_ok (not (list_any (λ r. f.root == r) (roots_of c.forks)) && nat_le 64 (length (roots_of c.forks))) (TooMany Roots) _ d h3 in
    let e : record c { forks = c.forks ++ f ∷ [] } ≡ d = cc in
    let last : fork_of (c.forks ++ f ∷ []) f.name ≡ Some (length c.forks) = found_last (λ x. bytes_eq f.name x.name) c.forks f fresh (nat_list_eq_equiv.refl f.name) in
    subst (λ (x : Circuit). del_fork x f.name ≡ Ok c) e (rw last (ap (λ (fs : List Fork). Ok (record c { forks = fs })) (remove_last c.forks f)))

pub fork_undone : (c d : Circuit) (name : List ℕ) (root fast slow : EventName) (margin offset : ℕ) → add_fork c name root fast slow margin offset ≡ Ok d → del_fork d name ≡ Ok c
unfolding add_fork
fork_undone c d name root fast slow margin offset h =
    let (_, h1) = unless_ok (not (is_name name)) BadName _ d h in
    let (fresh, h2) = unless_ok (is_some (fork_of c.forks name)) ForkTaken _ d h1 in
    let (r, _, h3) = bind_ok (or_fault UnknownEvent (event_of c.nets root)) _ d h2 in
    let (a, _, h4) = bind_ok (or_fault UnknownEvent (event_of c.nets fast)) _ d h3 in
    let (b, _, h5) = bind_ok (or_fault UnknownEvent (event_of c.nets slow)) _ d h4 in
    fork_of_undone c d (record { name = name; root = r; fast = a; slow = b; margin = margin; offset = offset }) (none_there (fork_of c.forks name) fresh) h5

-- ---- what a deletion leaves out

-- the first entry of a name is away
without : {A : Type 0} (name_of : A → List ℕ) (name : List ℕ) (xs : List A) (at : ℕ) → position (λ x. bytes_eq name (name_of x)) xs ≡ Some at → IsWithout name_of name xs (remove xs at)
without name_of name [] at h = cc
without name_of name (x ∷ xs) at h = by (bytes_eq name (name_of x)) refl (position (λ y. bytes_eq name (name_of y)) xs) refl at (sym (position-cons (λ y. bytes_eq name (name_of y)) x xs) ∙ h) (without name_of name xs)
  where
    by : (b : Bool) → bytes_eq name (name_of x) ≡ b → (o : Option ℕ) → position (λ y. bytes_eq name (name_of y)) xs ≡ o → (at : ℕ) → (if b then Some 0 else option_map (λ k. 1 + k) o) ≡ Some at
        → ((k : ℕ) → position (λ y. bytes_eq name (name_of y)) xs ≡ Some k → IsWithout name_of name xs (remove xs k)) → IsWithout name_of name (x ∷ xs) (remove (x ∷ xs) at)
    by true e o f at h rest =
        let zero_at : 0 ≡ at = cc in
        subst (λ (n : ℕ). IsWithout name_of name (x ∷ xs) (remove (x ∷ xs) n)) zero_at (record { before = []; gone = x; after = xs; parts = refl; named = e; rest = refl })
    by false e None f at h rest = cc
    by false e (Some k) f at h rest =
        let w = rest k f in
        let next : suc k ≡ at = let g : 1 + k ≡ at = cc in omega (arith, g) in
        subst (λ (n : ℕ). IsWithout name_of name (x ∷ xs) (remove (x ∷ xs) n)) next
        (record { before = x ∷ w.before; gone = w.gone; after = w.after; parts = ap (λ ys. x ∷ ys) w.parts; named = w.named; rest = ap (λ ys. x ∷ ys) w.rest })

pub inst_left_out : (c d : Circuit) (name : List ℕ) → del_inst c name ≡ Ok d → IsWithout (λ i. i.name) name c.insts d.insts × (d ≡ record c { insts = d.insts })
unfolding del_inst
inst_left_out c d name h =
    let (at, is, h1) = bind_ok (or_fault UnknownInst (inst_of c.insts name)) _ d h in
    let e : record c { insts = remove c.insts at } ≡ d = cc in
    subst (λ (x : Circuit). IsWithout (λ (i : Instance). i.name) name c.insts x.insts × (x ≡ record c { insts = x.insts })) e
    (without (λ (i : Instance). i.name) name c.insts at (or_fault_ok UnknownInst (inst_of c.insts name) at is), refl)

pub fork_left_out : (c d : Circuit) (name : List ℕ) → del_fork c name ≡ Ok d → IsWithout (λ f. f.name) name c.forks d.forks × (d ≡ record c { forks = d.forks })
unfolding del_fork
fork_left_out c d name h =
    let (at, is, h1) = bind_ok (or_fault UnknownFork (fork_of c.forks name)) _ d h in
    let e : record c { forks = remove c.forks at } ≡ d = cc in
    subst (λ (x : Circuit). IsWithout (λ (f : Fork). f.name) name c.forks x.forks × (x ≡ record c { forks = x.forks })) e
    (without (λ (f : Fork). f.name) name c.forks at (or_fault_ok UnknownFork (fork_of c.forks name) at is), refl)
