-- The rules of arcs and instances, counted and sought without their list.
use Rattle.std.proofs.Common.{◌≡◌, ◌≢◌, ℕ, ◌+◌, ◌*◌, ◌/◌, ◌%◌, ◌<◌, ◌≤◌, ◌==◌, ◌||◌, ◌&&◌, not, List, [], ◌∷◌, length, map, get_or, suc, zero, Bool, true, false, nat_eq, eqb, Option, Some, None, option_map, option_and_then, position, refl, sym, ap, subst, ◌∙◌, arith, All, slice_get, length-append, if◌then◌else◌}
use Rattle.std.specs.List.{list_any, sum_by, flat_map}
use Rattle.std.specs.Option.{option_map_or}
use Rattle.std.proofs.lemmas.Bool.Decides.{nat_tests}
use Rattle.std.proofs.lemmas.List.Folds.{list_any-append}
use Rattle.std.proofs.lemmas.List.Sums.{sum_by-cons}
use Rattle.std.proofs.lemmas.List.{length-map, get_or-map}
use Rattle.std.proofs.lemmas.Map.Steps.{length-le_from_distinct_below}
use Rattle.std.proofs.lemmas.Map.Keys.{IsDistinct-from_apart}
use Rattle.std.proofs.lemmas.Option.{get_or_from_slice_get, slice_get_within}
use Rattle.cell_arcs.specs.IsLibrary.{IsCell, IsArc}
use Rattle.cell_arcs.specs.declared.cells.Cell.{Cell}
use Rattle.cell_arcs.specs.declared.cells.CellArc.{CellArc}
use Rattle.cell_arcs.specs.declared.cells.Sense.{Sense}
use Rattle.cell_arcs.specs.declared.cells.Sense.TheVariants.{Pos, Neg, Non}
use Rattle.netlist_model.specs.ArcRules.{sense_count, source_count, arc_count, inst_count, insts_count, leads, source_joins, arc_joins, inst_joins, is_unjoined, HaveOneDriver}
use Rattle.netlist_model.specs.Circuit.{Circuit, last_of, drives, driver_of, is_between, is_net}
use Rattle.netlist_model.specs.Expansion.{rules_by, rules_of_arc, rules_of_arcs, rules_of_inst, rules_of, delay_of}
use Rattle.netlist_model.specs.Sound.{IsPin, HasOutput, IsInstance, IsNetlist}
use Rattle.netlist_model.specs.Whole.{is_idle}
use Rattle.netlist_model.specs.declared.parts.Delay.{Delay}
use Rattle.netlist_model.specs.declared.parts.Instance.{Instance}
use Rattle.netlist_model.specs.declared.parts.NetRef.{NetRef}
use Rattle.netlist_model.specs.declared.parts.NetRef.TheVariants.{Net, Const}
use Rattle.netlist_model.specs.declared.parts.Tick.{Tick}
use Rattle.netlist_model.proofs.Places.{stands, position-cons}

-- ---- how many

-- what holds of each item holds of the one at a place
pub each_at : {A : Type 0} (P : A → Type 0) (xs : List A) (k : ℕ) (x : A) → All P xs → slice_get xs k ≡ Some x → P x
each_at P xs k x all at = subst P (get_or_from_slice_get xs k x x at) (all k x (slice_get_within xs k x at))

source_below : (arcs : List CellArc) (n q : ℕ) → ((k : ℕ) (a : CellArc) → slice_get arcs k ≡ Some a → a.from < n) → list_any (eqb q) (map (λ a. a.from) arcs) ≡ true → q < n
source_below [] n q h some = cc
source_below (a ∷ arcs) n q h some = by (eqb q a.from) refl (source_below arcs n q (λ k x at. h (suc k) x at))
  where
    by : (b : Bool) → eqb q a.from ≡ b → (list_any (eqb q) (map (λ x. x.from) arcs) ≡ true → q < n) → q < n
    by true e rest =
        let low = h 0 a refl in
        let same : q ≡ a.from = grind (arith, nat_tests) in
        omega arith
    by false e rest = rest (rw e at some)

-- a cell has at most as many arcs as inputs
pub few_arcs : (k : Cell) → IsCell k → length k.arcs ≤ 16
few_arcs k cell =
    let n = length-le_from_distinct_below (map (λ a. a.from) k.arcs) (length k.inputs) cell.arcs.distinct
    (λ q some. source_below k.arcs (length k.inputs) q (λ j a at. (each_at (IsArc k.inputs) k.arcs j a cell.arcs.each at).within) some) in
    omega (arith, cell.few, length-map k.arcs (λ (a : CellArc). a.from))

count_by_sense : (sense : Sense) (ticks : List Tick) (a z : ℕ) (d : Delay) → length (rules_by sense ticks a z d) ≡ sense_count sense
count_by_sense Pos ticks a z d = refl
count_by_sense Neg ticks a z d = refl
count_by_sense Non ticks a z d = refl

count_of_arc : (ticks : List Tick) (p o : Option NetRef) (arc : CellArc) (d : Delay) → HasOutput o → length (rules_of_arc ticks p o arc d) ≡ source_count p arc.sense
count_of_arc ticks (Some (Net a)) (Some (Net z)) arc d h = count_by_sense arc.sense ticks a z d
count_of_arc ticks (Some (Net a)) (Some (Const k)) arc d h = absurd h
count_of_arc ticks (Some (Net a)) None arc d h = absurd h
count_of_arc ticks (Some (Const k)) o arc d h = refl
count_of_arc ticks None o arc d h = refl

count_of_arcs : (ticks : List Tick) (i : Instance) (place : ℕ) (arcs : List CellArc) → HasOutput (last_of i.pins) → length (rules_of_arcs ticks i place arcs) ≡ sum_by (arc_count i.pins) arcs
count_of_arcs ticks i place [] h = refl
count_of_arcs ticks i place (arc ∷ arcs) h =
    length-append (rules_of_arc ticks (slice_get i.pins arc.from) (last_of i.pins) arc (delay_of arc (slice_get i.delays place))) (rules_of_arcs ticks i (place + 1) arcs)
    ∙ rw (count_of_arc ticks (slice_get i.pins arc.from) (last_of i.pins) arc (delay_of arc (slice_get i.delays place)) h, count_of_arcs ticks i (place + 1) arcs h) (sym (sum_by-cons (arc_count i.pins) arc arcs))

count_of_inst : (library : List Cell) (ticks : List Tick) (i : Instance) → HasOutput (last_of i.pins) → length (rules_of_inst library ticks i) ≡ inst_count library i
count_of_inst library ticks i h = by (slice_get library i.cell) refl
  where
    by : (o : Option Cell) → slice_get library i.cell ≡ o → length (rules_of_inst library ticks i) ≡ inst_count library i
    by None e = rw e refl
    by (Some k) e = rw e (count_of_arcs ticks i 0 k.arcs h)

count_of_insts : (library : List Cell) (ticks : List Tick) (insts : List Instance) → ((k : ℕ) (i : Instance) → slice_get insts k ≡ Some i → HasOutput (last_of i.pins)) → length (flat_map (rules_of_inst library ticks) insts) ≡ insts_count library insts
count_of_insts library ticks [] h = refl
count_of_insts library ticks (i ∷ insts) h =
    length-append (rules_of_inst library ticks i) (flat_map (rules_of_inst library ticks) insts)
    ∙ rw (count_of_inst library ticks i (h 0 i refl), count_of_insts library ticks insts (λ k x at. h (suc k) x at)) (sym (sum_by-cons (inst_count library) i insts))

-- the rules of a netlist are as many as its instances' arcs make
pub counted : (library : List Cell) (c : Circuit) → IsNetlist c → insts_count library c.insts ≡ length (rules_of library c)
counted library c s = sym (count_of_insts library c.ticks c.insts (λ k i at. (each_at (IsInstance (length c.nets) (length c.consts)) c.insts k i s.insts at).output))

-- ---- instances and nets

-- the net of an output
net_of : Option NetRef → ℕ
net_of (Some (Net n)) = n
net_of (Some (Const k)) = 0
net_of None = 0

drives_own : (o : Option NetRef) → HasOutput o → is_net (net_of o) o ≡ true
unfolding net_of
drives_own (Some (Net n)) h = let e : nat_eq n n ≡ true = grind (arith, nat_tests) in e
drives_own (Some (Const k)) h = absurd h
drives_own None h = absurd h

last_in : (pins : List NetRef) (q : NetRef) → last_of pins ≡ Some q → (k : ℕ) × (slice_get pins k ≡ Some q)
last_in [] q e = cc
last_in (p ∷ pins) q e = by (last_of pins) refl (last_in pins q)
  where
    by : (o : Option NetRef) → last_of pins ≡ o → (last_of pins ≡ Some q → (k : ℕ) × (slice_get pins k ≡ Some q)) → (k : ℕ) × (slice_get (p ∷ pins) k ≡ Some q)
    by None d rest = (0, rw d at e)
    by (Some x) d rest = let same : Some x ≡ Some q = rw d at e in let r = rest (d ∙ same) in (suc r.0, r.1)

output_within : (nets consts : ℕ) (pins : List NetRef) (o : Option NetRef) → last_of pins ≡ o → All (IsPin nets consts) pins → HasOutput o → net_of o < nets
unfolding net_of
output_within nets consts pins (Some (Net n)) e each h =
    let (k, at) = last_in pins (Net n) e in
    each_at (IsPin nets consts) pins k (Net n) each at
output_within nets consts pins (Some (Const k)) e each h = absurd h
output_within nets consts pins None e each h = absurd h

driven : Instance → ℕ
driven i = net_of (last_of i.pins)

-- two instances drive different nets
drive_apart : (c : Circuit) → IsNetlist c → (i j d : ℕ) → i < j → j < length (map driven c.insts) → nat_eq (get_or (map driven c.insts) i d) (get_or (map driven c.insts) j d) ≡ false
unfolding driven
drive_apart c s i j d less within = by (nat_eq (get_or (map driven c.insts) i d) (get_or (map driven c.insts) j d)) refl
  where
    short : length (map driven c.insts) ≡ length c.insts
    short = length-map c.insts driven

    by : (b : Bool) → nat_eq (get_or (map driven c.insts) i d) (get_or (map driven c.insts) j d) ≡ b → nat_eq (get_or (map driven c.insts) i d) (get_or (map driven c.insts) j d) ≡ false
    by false e = e
    by true e =
        let (x, at_i) = stands c.insts i (omega (arith, short)) in
        let (y, at_j) = stands c.insts j (omega (arith, short)) in
        let di : get_or (map driven c.insts) i d ≡ driven x = get_or-map driven c.insts i x d (omega (arith, short)) ∙ ap driven (get_or_from_slice_get c.insts i x x at_i) in
        let dj : get_or (map driven c.insts) j d ≡ driven y = get_or-map driven c.insts j y d (omega (arith, short)) ∙ ap driven (get_or_from_slice_get c.insts j y y at_j) in
        let same : driven x ≡ driven y = grind (arith, nat_tests) in
        let px = s.one_driver i (driven x) x at_i (drives_own (last_of x.pins) (each_at (IsInstance (length c.nets) (length c.consts)) c.insts i x s.insts at_i).output) in
        let py = s.one_driver j (driven y) y at_j (drives_own (last_of y.pins) (each_at (IsInstance (length c.nets) (length c.consts)) c.insts j y s.insts at_j).output) in
        let both : Some i ≡ Some j = sym px ∙ ap (driver_of c.insts) same ∙ py in
        let one : i ≡ j = cc in
        absurd (omega arith)

net_below : (nets consts : ℕ) (insts : List Instance) (q : ℕ) → ((k : ℕ) (i : Instance) → slice_get insts k ≡ Some i → IsInstance nets consts i) → list_any (eqb q) (map driven insts) ≡ true → q < nets
unfolding driven
net_below nets consts [] q each some = cc
net_below nets consts (i ∷ insts) q each some = by (eqb q (driven i)) refl (net_below nets consts insts q (λ k x at. each (suc k) x at))
  where
    by : (b : Bool) → eqb q (driven i) ≡ b → (list_any (eqb q) (map driven insts) ≡ true → q < nets) → q < nets
    by true e rest =
        let good = each 0 i refl in
        let low = output_within nets consts i.pins (last_of i.pins) refl good.pins good.output in
        let same : q ≡ driven i = grind (arith, nat_tests) in
        omega arith
    by false e rest = rest (rw e at some)

-- each instance drives a net of its own, so there are at most as many as nets
pub few_insts : (c : Circuit) → IsNetlist c → length c.insts ≤ 16384
few_insts c s =
    let n = length-le_from_distinct_below (map driven c.insts) (length c.nets) (IsDistinct-from_apart nat_eq (map driven c.insts) (drive_apart c s))
    (λ q some. net_below (length c.nets) (length c.consts) c.insts q (λ k i at. each_at (IsInstance (length c.nets) (length c.consts)) c.insts k i s.insts at) some) in
    omega (arith, s.few_nets, length-map c.insts driven)

pub has_one_driver : (c : Circuit) → IsNetlist c → HaveOneDriver c.insts
has_one_driver c s = record { one = s.one_driver }

-- ---- a tick and the rules of an instance

parity : (s a : ℕ) → ((2 * a) == s) ≡ ((a == s / 2) && (s % 2 == 0))
parity s a = grind (arith, nat_tests)

odd : (s a : ℕ) → ((2 * a + 1) == s) ≡ ((a == s / 2) && not (s % 2 == 0))
odd s a = grind (arith, nat_tests)

own_net : (t z : ℕ) → z ≡ t / 2 → (z == t / 2) ≡ true
own_net t z e = grind (arith, nat_tests)

joins_by_sense : (sense : Sense) (ticks : List Tick) (a z : ℕ) (d : Delay) (t : Tick) → z ≡ t.target / 2
    → list_any (λ r. is_between r.source r.target t) (rules_by sense ticks a z d) ≡ source_joins (Some (Net a)) sense t.source t.target
joins_by_sense sense ticks a z d t own = tests sense (a == t.source / 2) (t.source % 2 == 0) (t.target % 2 == 0) (parity t.source a) (odd t.source a) (parity t.target z ∙ rw (own_net t.target z own) refl) (odd t.target z ∙ rw (own_net t.target z own) refl)
  where
    tests : (sense : Sense) (at rises falls : Bool) → ((2 * a) == t.source) ≡ (at && rises) → ((2 * a + 1) == t.source) ≡ (at && not rises) → ((2 * z) == t.target) ≡ falls → ((2 * z + 1) == t.target) ≡ not falls
        → list_any (λ r. is_between r.source r.target t) (rules_by sense ticks a z d) ≡ (at && leads sense rises falls)
    tests Pos true true true e1 e2 e3 e4 = simp (e1, e2, e3, e4)
    tests Pos true true false e1 e2 e3 e4 = simp (e1, e2, e3, e4)
    tests Pos true false true e1 e2 e3 e4 = simp (e1, e2, e3, e4)
    tests Pos true false false e1 e2 e3 e4 = simp (e1, e2, e3, e4)
    tests Pos false rises falls e1 e2 e3 e4 = simp (e1, e2)
    tests Neg true true true e1 e2 e3 e4 = simp (e1, e2, e3, e4)
    tests Neg true true false e1 e2 e3 e4 = simp (e1, e2, e3, e4)
    tests Neg true false true e1 e2 e3 e4 = simp (e1, e2, e3, e4)
    tests Neg true false false e1 e2 e3 e4 = simp (e1, e2, e3, e4)
    tests Neg false rises falls e1 e2 e3 e4 = simp (e1, e2)
    tests Non true true true e1 e2 e3 e4 = simp (e1, e2, e3, e4)
    tests Non true true false e1 e2 e3 e4 = simp (e1, e2, e3, e4)
    tests Non true false true e1 e2 e3 e4 = simp (e1, e2, e3, e4)
    tests Non true false false e1 e2 e3 e4 = simp (e1, e2, e3, e4)
    tests Non false rises falls e1 e2 e3 e4 = simp (e1, e2)

joins_of_arc : (ticks : List Tick) (p o : Option NetRef) (z : ℕ) (arc : CellArc) (d : Delay) (t : Tick) → o ≡ Some (Net z) → z ≡ t.target / 2
    → list_any (λ r. is_between r.source r.target t) (rules_of_arc ticks p o arc d) ≡ source_joins p arc.sense t.source t.target
joins_of_arc ticks (Some (Net a)) o z arc d t e own = rw e (joins_by_sense arc.sense ticks a z d t own)
joins_of_arc ticks (Some (Const k)) o z arc d t e own = refl
joins_of_arc ticks None o z arc d t e own = refl

joins_of_arcs : (ticks : List Tick) (i : Instance) (z place : ℕ) (arcs : List CellArc) (t : Tick) → last_of i.pins ≡ Some (Net z) → z ≡ t.target / 2
    → list_any (λ r. is_between r.source r.target t) (rules_of_arcs ticks i place arcs) ≡ list_any (arc_joins i.pins t) arcs
joins_of_arcs ticks i z place [] t e own = refl
joins_of_arcs ticks i z place (arc ∷ arcs) t e own =
    list_any-append (λ r. is_between r.source r.target t) (rules_of_arc ticks (slice_get i.pins arc.from) (last_of i.pins) arc (delay_of arc (slice_get i.delays place))) (rules_of_arcs ticks i (place + 1) arcs)
    ∙ rw (joins_of_arc ticks (slice_get i.pins arc.from) (last_of i.pins) z arc (delay_of arc (slice_get i.delays place)) t e own, joins_of_arcs ticks i z (place + 1) arcs t e own) refl

-- the net that an instance drives
drives_is : (n : ℕ) (o : Option NetRef) → is_net n o ≡ true → o ≡ Some (Net n)
drives_is n (Some (Net m)) h = let e : m ≡ n = grind (arith, nat_tests) in ap (λ x. Some (Net x)) e
drives_is n (Some (Const k)) h = cc
drives_is n None h = cc

joins_of_inst : (library : List Cell) (ticks : List Tick) (i : Instance) (t : Tick) → drives (t.target / 2) i ≡ true → list_any (λ r. is_between r.source r.target t) (rules_of_inst library ticks i) ≡ inst_joins library t i
joins_of_inst library ticks i t d = by (slice_get library i.cell) refl
  where
    by : (o : Option Cell) → slice_get library i.cell ≡ o → list_any (λ r. is_between r.source r.target t) (rules_of_inst library ticks i) ≡ inst_joins library t i
    by None e = rw e refl
    by (Some k) e = rw e (joins_of_arcs ticks i (t.target / 2) 0 k.arcs t (drives_is (t.target / 2) (last_of i.pins) d) refl)

-- ---- a tick and the rules of an instance that drives another net

even_apart : (t z : ℕ) → (t / 2 == z) ≡ false → ((2 * z) == t) ≡ false
even_apart t z h = grind (arith, nat_tests)

odd_apart : (t z : ℕ) → (t / 2 == z) ≡ false → ((2 * z + 1) == t) ≡ false
odd_apart t z h = grind (arith, nat_tests)

and_false : (b : Bool) → (b && false) ≡ false
and_false true = refl
and_false false = refl

apart_by_sense : (sense : Sense) (ticks : List Tick) (a z : ℕ) (d : Delay) (t : Tick) → (t.target / 2 == z) ≡ false → list_any (λ r. is_between r.source r.target t) (rules_by sense ticks a z d) ≡ false
apart_by_sense Pos ticks a z d t h = simp (even_apart t.target z h, odd_apart t.target z h, and_false)
apart_by_sense Neg ticks a z d t h = simp (even_apart t.target z h, odd_apart t.target z h, and_false)
apart_by_sense Non ticks a z d t h = simp (even_apart t.target z h, odd_apart t.target z h, and_false)

apart_of_arc : (ticks : List Tick) (p o : Option NetRef) (arc : CellArc) (d : Delay) (t : Tick) → is_net (t.target / 2) o ≡ false → list_any (λ r. is_between r.source r.target t) (rules_of_arc ticks p o arc d) ≡ false
apart_of_arc ticks (Some (Net a)) (Some (Net z)) arc d t h = apart_by_sense arc.sense ticks a z d t h
apart_of_arc ticks (Some (Net a)) (Some (Const k)) arc d t h = refl
apart_of_arc ticks (Some (Net a)) None arc d t h = refl
apart_of_arc ticks (Some (Const k)) o arc d t h = refl
apart_of_arc ticks None o arc d t h = refl

apart_of_arcs : (ticks : List Tick) (i : Instance) (place : ℕ) (arcs : List CellArc) (t : Tick) → drives (t.target / 2) i ≡ false → list_any (λ r. is_between r.source r.target t) (rules_of_arcs ticks i place arcs) ≡ false
apart_of_arcs ticks i place [] t h = refl
apart_of_arcs ticks i place (arc ∷ arcs) t h =
    list_any-append (λ r. is_between r.source r.target t) (rules_of_arc ticks (slice_get i.pins arc.from) (last_of i.pins) arc (delay_of arc (slice_get i.delays place))) (rules_of_arcs ticks i (place + 1) arcs)
    ∙ rw (apart_of_arc ticks (slice_get i.pins arc.from) (last_of i.pins) arc (delay_of arc (slice_get i.delays place)) t h, apart_of_arcs ticks i (place + 1) arcs t h) refl

apart_of_inst : (library : List Cell) (ticks : List Tick) (i : Instance) (t : Tick) → drives (t.target / 2) i ≡ false → list_any (λ r. is_between r.source r.target t) (rules_of_inst library ticks i) ≡ false
apart_of_inst library ticks i t d = by (slice_get library i.cell) refl
  where
    by : (o : Option Cell) → slice_get library i.cell ≡ o → list_any (λ r. is_between r.source r.target t) (rules_of_inst library ticks i) ≡ false
    by None e = rw e refl
    by (Some k) e = rw e (apart_of_arcs ticks i 0 k.arcs t d)

-- ---- a tick and the rules of all instances

any_flat_map : {A B : Type 0} (p : B → Bool) (f : A → List B) (xs : List A) → list_any p (flat_map f xs) ≡ list_any (λ x. list_any p (f x)) xs
any_flat_map p f [] = refl
any_flat_map p f (x ∷ xs) = list_any-append p (f x) (flat_map f xs) ∙ rw (any_flat_map p f xs) refl

none_at : {A : Type 0} (q : A → Bool) (xs : List A) → ((j : ℕ) (y : A) → slice_get xs j ≡ Some y → q y ≡ false) → list_any q xs ≡ false
none_at q [] h = refl
none_at q (x ∷ xs) h = rw (h 0 x refl, none_at q xs (λ j y e. h (suc j) y e)) refl

or_false : (b : Bool) → (b || false) ≡ b
or_false true = refl
or_false false = refl

-- one passes exactly where the one at this place does, since no other can
only_at : {A : Type 0} (q : A → Bool) (xs : List A) (k : ℕ) (x : A) → slice_get xs k ≡ Some x → ((j : ℕ) (y : A) → j ≢ k → slice_get xs j ≡ Some y → q y ≡ false) → list_any q xs ≡ q x
only_at q [] k x at h = cc
only_at q (y ∷ xs) zero x at h =
    let same : y ≡ x = cc in
    let none : list_any q xs ≡ false = none_at q xs (λ j z e. h (suc j) z (omega arith) e) in
    rw (none, or_false (q y)) (ap q same)
only_at q (y ∷ xs) (suc k) x at h =
    let here : q y ≡ false = h 0 y (omega arith) refl in
    rw here (only_at q xs k x at (λ j z d e. h (suc j) z (omega arith) e))

-- a place where the test passes, where there is none before
passes_at : {A : Type 0} (p : A → Bool) (xs : List A) (k : ℕ) → position p xs ≡ Some k → (x : A) × (slice_get xs k ≡ Some x) × (p x ≡ true)
passes_at p [] k e = cc
passes_at p (x ∷ xs) k e = by (p x) (position p xs) refl refl (passes_at p xs) (sym (position-cons p x xs) ∙ e)
  where
    by : (b : Bool) (o : Option ℕ) → p x ≡ b → position p xs ≡ o → ((j : ℕ) → position p xs ≡ Some j → (y : _) × (slice_get xs j ≡ Some y) × (p y ≡ true)) → (if b then Some 0 else option_map (λ j. 1 + j) o) ≡ Some k
        → (y : _) × (slice_get (x ∷ xs) k ≡ Some y) × (p y ≡ true)
    by true o e1 e2 rest h = let zero_is : 0 ≡ k = cc in (x, rw (← zero_is) refl, e1)
    by false None e1 e2 rest h = cc
    by false (Some j) e1 e2 rest h =
        let next : k ≡ suc j = (let n : 1 + j ≡ k = cc in omega arith) in
        let r = rest j e2 in
        (r.0, rw next r.1, r.2)

-- the tests of a tick over the rules and over the driver's arcs
pub unjoined_is : (library : List Cell) (insts : List Instance) (ticks : List Tick) (t : Tick) → HaveOneDriver insts → is_unjoined library insts t ≡ is_idle (flat_map (rules_of_inst library ticks) insts) t
unjoined_is library insts ticks t one = ap not (sym (any_flat_map (λ r. is_between r.source r.target t) (rules_of_inst library ticks) insts ∙ by (driver_of insts (t.target / 2)) refl))
  where
    apart : (j : ℕ) (y : Instance) (o : Option ℕ) → driver_of insts (t.target / 2) ≡ o → o ≢ Some j → slice_get insts j ≡ Some y → list_any (λ r. is_between r.source r.target t) (rules_of_inst library ticks y) ≡ false
    apart j y o e other at = test (drives (t.target / 2) y) refl
      where
        test : (b : Bool) → drives (t.target / 2) y ≡ b → list_any (λ r. is_between r.source r.target t) (rules_of_inst library ticks y) ≡ false
        test false d = apart_of_inst library ticks y t d
        test true d = absurd (other (sym e ∙ one.one j (t.target / 2) y at d))

    by : (o : Option ℕ) → driver_of insts (t.target / 2) ≡ o
        → list_any (λ i. list_any (λ r. is_between r.source r.target t) (rules_of_inst library ticks i)) insts ≡ option_map_or (inst_joins library t) (option_and_then (λ k. slice_get insts k) (driver_of insts (t.target / 2))) false
    by None e = rw e (none_at _ insts (λ j y at. apart j y None e (λ x. cc) at))
    by (Some k) e =
        let (x, at, d) = passes_at (drives (t.target / 2)) insts k e in
        rw (e, at) (only_at _ insts k x at (λ j y other here. apart j y (Some k) e (λ z. other (let n : k ≡ j = cc in sym n)) here) ∙ joins_of_inst library ticks x t d)

position_same : {A : Type 0} (p q : A → Bool) (xs : List A) → ((x : A) → p x ≡ q x) → position p xs ≡ position q xs
position_same p q [] h = refl
position_same p q (x ∷ xs) h = position-cons p x xs ∙ rw (h x, position_same p q xs h) (sym (position-cons q x xs))

-- the first tick without rule
pub idle_is : (library : List Cell) (c : Circuit) → IsNetlist c → position (is_unjoined library c.insts) c.ticks ≡ position (is_idle (rules_of library c)) c.ticks
idle_is library c s = position_same (is_unjoined library c.insts) (is_idle (rules_of library c)) c.ticks (λ t. unjoined_is library c.insts c.ticks t (has_one_driver c s))
