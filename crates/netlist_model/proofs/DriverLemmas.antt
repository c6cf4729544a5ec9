-- What is told of the drivers of nets, by the nets' places.
use Rattle.std.proofs.Common.{◌≡◌, ◌≢◌, ℕ, ◌+◌, ◌-◌, ◌<◌, ◌≤◌, inl, inr, List, [], ◌∷◌, length, map, set, suc, zero, Bool, true, false, cond, nat_eq, nat_lt, Option, Some, None, option_map, position, get_or, refl, sym, ap, subst, ◌∙◌, arith, slice_get, if◌then◌else◌}
use Rattle.std.specs.List.{list_any, remove}
use Rattle.std.proofs.lemmas.Bool.Decides.{nat_tests}
use Rattle.std.proofs.lemmas.List.Quantifiers.{position-Some}
use Rattle.std.proofs.lemmas.Option.{get_or_from_slice_get, slice_get_within}
use Rattle.cell_arcs.specs.Steps.{or_else}
use Rattle.netlist_model.specs.ArcRules.{HaveOneDriver}
use Rattle.netlist_model.specs.Circuit.{last_of, drives, driver_of, is_net}
use Rattle.netlist_model.specs.Deletions.{moved_up, ref_after, inst_after, is_same, is_pinned}
use Rattle.netlist_model.specs.Keyed.{told_at, place_after}
use Rattle.netlist_model.specs.Uses.{moved_back}
use Rattle.netlist_model.specs.declared.parts.Instance.{Instance}
use Rattle.netlist_model.specs.declared.parts.NetRef.{NetRef}
use Rattle.netlist_model.specs.declared.parts.NetRef.TheVariants.{Net, Const}
use Rattle.netlist_model.proofs.BlockLemmas.{set_cases}
use Rattle.netlist_model.proofs.Places.{position-map, position_within, stands}
use Rattle.netlist_model.proofs.Tables.{position_set}
use Rattle.netlist_model.proofs.Taken.{none_at, not_true, position_agrees, position_alone, position_only, position_without}

-- ---- what is told

pub told_set : (told : List (Option ℕ)) (i n : ℕ) (o : Option ℕ) → i < length told → told_at (set told i o) n ≡ cond (nat_eq i n) o (told_at told n)
told_set [] i n o low = absurd (omega arith)
told_set (t ∷ ts) zero zero o low = refl
told_set (t ∷ ts) zero (suc n) o low = let e : nat_eq 0 (suc n) ≡ false = grind (arith, nat_tests) in rw e refl
told_set (t ∷ ts) (suc i) zero o low = let e : nat_eq (suc i) 0 ≡ false = grind (arith, nat_tests) in rw e refl
told_set (t ∷ ts) (suc i) (suc n) o low =
    let e : nat_eq (suc i) (suc n) ≡ nat_eq i n = grind (arith, nat_tests) in
    rw e (told_set ts i n o (omega arith))

pub told_map : (gone : ℕ) (told : List (Option ℕ)) (n : ℕ) → told_at (map (place_after gone) told) n ≡ place_after gone (told_at told n)
told_map gone [] n = refl
told_map gone (t ∷ ts) zero = refl
told_map gone (t ∷ ts) (suc n) = told_map gone ts n

pub told_past : (told : List (Option ℕ)) (n : ℕ) → length told ≤ n → told_at told n ≡ None
told_past [] n h = refl
told_past (t ∷ ts) zero h = absurd (omega arith)
told_past (t ∷ ts) (suc n) h = told_past ts n (omega arith)

told_removed : (told : List (Option ℕ)) (gone n : ℕ) → told_at (remove told gone) n ≡ told_at told (moved_back gone n)
told_removed [] zero n = refl
told_removed [] (suc gone) n = refl
told_removed (t ∷ ts) zero n = let e : nat_lt n 0 ≡ false = grind (arith, nat_tests) in rw e refl
told_removed (t ∷ ts) (suc gone) zero = let e : nat_lt 0 (suc gone) ≡ true = grind (arith, nat_tests) in rw e refl
told_removed (t ∷ ts) (suc gone) (suc n) = told_removed ts gone n ∙ ap (told_at (t ∷ ts)) (by (nat_lt n gone) refl)
  where
    by : (b : Bool) → nat_lt n gone ≡ b → suc (moved_back gone n) ≡ moved_back (suc gone) (suc n)
    by true e = let f : nat_lt (suc n) (suc gone) ≡ true = grind (arith, nat_tests) in rw (e, f) refl
    by false e = let f : nat_lt (suc n) (suc gone) ≡ false = grind (arith, nat_tests) in rw (e, f) refl

pub told_forgotten : (told : List (Option ℕ)) (gone n : ℕ) → told_at (if nat_lt gone (length told) then remove told gone else told) n ≡ told_at told (moved_back gone n)
told_forgotten told gone n = by (nat_lt gone (length told)) refl
  where
    past : nat_lt gone (length told) ≡ false → (b : Bool) → nat_lt n gone ≡ b → told_at told n ≡ told_at told (moved_back gone n)
    past h true e = rw e refl
    past h false e =
        let high : length told ≤ n = grind (arith, nat_tests) in
        rw e (told_past told n high ∙ sym (told_past told (suc n) (omega arith)))

    by : (b : Bool) → nat_lt gone (length told) ≡ b → told_at (if b then remove told gone else told) n ≡ told_at told (moved_back gone n)
    by true e = told_removed told gone n
    by false e = past e (nat_lt n gone) refl

-- ---- an instance away

eq_refl : (k : ℕ) → nat_eq k k ≡ true
eq_refl k = grind (arith, nat_tests)

some_same : {A : Type 0} (x y : A) → Some x ≡ Some y → x ≡ y
some_same x y e = cc

place_other : (gone : ℕ) (o : Option ℕ) → ((k : ℕ) → o ≡ Some k → k ≢ gone) → place_after gone o ≡ option_map (moved_up gone) o
place_other gone None h = refl
place_other gone (Some k) h =
    let d = h k refl in
    let e : nat_eq k gone ≡ false = grind (arith, nat_tests) in
    rw e refl

-- what stands at the first place that passes
pub passing : {A : Type 0} (p : A → Bool) (xs : List A) (k : ℕ) → position p xs ≡ Some k → (y : A) × (slice_get xs k ≡ Some y) × (p y ≡ true)
passing p xs k is =
    let (y, at) = stands xs k (position_within p xs k is) in
    let (low, passed, first) = position-Some p xs k y is in
    (y, at, sym (ap p (get_or_from_slice_get xs k y y at)) ∙ passed)

pub driver_removed : (insts : List Instance) (gone n : ℕ) → HaveOneDriver insts → gone < length insts → driver_of (remove insts gone) n ≡ place_after gone (driver_of insts n)
driver_removed insts gone n one low =
    let (x, at) = stands insts gone low in
    by x at (drives n x) refl
  where
    other : (x : Instance) → slice_get insts gone ≡ Some x → drives n x ≡ false → (k : ℕ) → driver_of insts n ≡ Some k → k ≢ gone
    other x at e k is same =
        let (y, at_k, passed) = passing (drives n) insts k is in
        let g : Some y ≡ Some x = sym at_k ∙ ap (slice_get insts) same ∙ at in
        let f : true ≡ false = sym passed ∙ ap (drives n) (some_same y x g) ∙ e in cc

    by : (x : Instance) → slice_get insts gone ≡ Some x → (b : Bool) → drives n x ≡ b → driver_of (remove insts gone) n ≡ place_after gone (driver_of insts n)
    by x at true e =
        let here = one.one gone n x at e in
        let none = position_alone (drives n) insts gone x at (λ k y at_k t. some_same k gone (sym (one.one k n y at_k t) ∙ here)) in
        none ∙ sym (ap (place_after gone) here ∙ rw (eq_refl gone) refl)
    by x at false e =
        position_without (drives n) insts gone x at e ∙ sym (place_other gone (driver_of insts n) (other x at e))

-- the last instance away: the places of the others stay
pub driver_last : (insts : List Instance) (gone n : ℕ) (x : Instance) → HaveOneDriver insts → slice_get insts gone ≡ Some x → length insts ≡ gone + 1
    → cond (is_net n (last_of x.pins)) None (driver_of insts n) ≡ driver_of (remove insts gone) n
driver_last insts gone n x one at end = by (drives n x) refl ∙ sym (driver_removed insts gone n one (omega (arith, end)))
  where
    other : drives n x ≡ false → (k : ℕ) → driver_of insts n ≡ Some k → k ≢ gone
    other e k is same =
        let (y, at_k, passed) = passing (drives n) insts k is in
        let g : Some y ≡ Some x = sym at_k ∙ ap (slice_get insts) same ∙ at in
        let f : true ≡ false = sym passed ∙ ap (drives n) (some_same y x g) ∙ e in cc

    kept : drives n x ≡ false → (o : Option ℕ) → driver_of insts n ≡ o → o ≡ place_after gone o
    kept e None is = refl
    kept e (Some k) is =
        let d = other e k is in
        let low : k < gone = omega (arith, position_within (drives n) insts k is, end, d) in
        let apart : nat_eq k gone ≡ false = grind (arith, nat_tests) in
        let below : nat_lt gone k ≡ false = grind (arith, nat_tests) in
        rw (apart, below) refl

    by : (b : Bool) → drives n x ≡ b → cond b None (driver_of insts n) ≡ place_after gone (driver_of insts n)
    by true e = sym (ap (place_after gone) (one.one gone n x at e) ∙ rw (eq_refl gone) refl)
    by false e = kept e (driver_of insts n) refl

-- ---- a net or a constant away

last_mapped : {A B : Type 0} (f : A → B) (xs : List A) → last_of (map f xs) ≡ option_map f (last_of xs)
last_mapped f [] = refl
last_mapped {A = A} f (x ∷ xs) = rw (last_mapped f xs) (by (last_of xs))
  where
    by : (o : Option A) → or_else (option_map f o) (Some (f x)) ≡ option_map f (or_else o (Some x))
    by None = refl
    by (Some y) = refl

last_not : {A : Type 0} (q : A → Bool) (xs : List A) (y : A) → list_any q xs ≡ false → last_of xs ≡ Some y → q y ≡ false
last_not q [] y none is = cc
last_not {A = A} q (x ∷ xs) y none is = by (q x) (last_of xs) refl refl (last_not q xs y)
  where
    by : (b : Bool) (o : Option A) → q x ≡ b → last_of xs ≡ o → (list_any q xs ≡ false → last_of xs ≡ Some y → q y ≡ false) → q y ≡ false
    by true o e l rest = let g : true ≡ false = rw e at none in cc
    by false None e l rest =
        let g : Some x ≡ Some y = rw l at is in
        sym (ap q (some_same x y g)) ∙ e
    by false (Some z) e l rest =
        let g : Some z ≡ Some y = rw l at is in
        let f : list_any q xs ≡ false = rw e at none in
        rest f (l ∙ g)

net_moved : (gone n m : ℕ) → nat_eq gone m ≡ false → nat_eq n (moved_up gone m) ≡ nat_eq (moved_back gone n) m
net_moved gone n m h = grind (arith, nat_tests)

drives_after : (gone n : ℕ) (i : Instance) → is_pinned (Net gone) i ≡ false → drives n (inst_after (Net gone) i) ≡ drives (moved_back gone n) i
drives_after gone n i free = ap (is_net n) (last_mapped (ref_after (Net gone)) i.pins) ∙ by (last_of i.pins) refl
  where
    by : (o : Option NetRef) → last_of i.pins ≡ o → is_net n (option_map (ref_after (Net gone)) o) ≡ is_net (moved_back gone n) o
    by None e = refl
    by (Some (Const k)) e = refl
    by (Some (Net m)) e = net_moved gone n m (last_not (is_same (Net gone)) i.pins (Net m) free e)

pub driver_after_net : (insts : List Instance) (gone n : ℕ) → list_any (is_pinned (Net gone)) insts ≡ false → driver_of (map (inst_after (Net gone)) insts) n ≡ driver_of insts (moved_back gone n)
driver_after_net insts gone n free =
    position-map (inst_after (Net gone)) (drives n) insts
    ∙ position_agrees (is_pinned (Net gone)) (λ i. drives n (inst_after (Net gone) i)) (drives (moved_back gone n)) insts free (λ i h. drives_after gone n i h)

drives_const : (gone n : ℕ) (i : Instance) → drives n (inst_after (Const gone) i) ≡ drives n i
drives_const gone n i = ap (is_net n) (last_mapped (ref_after (Const gone)) i.pins) ∙ by (last_of i.pins)
  where
    by : (o : Option NetRef) → is_net n (option_map (ref_after (Const gone)) o) ≡ is_net n o
    by None = refl
    by (Some (Const k)) = refl
    by (Some (Net m)) = refl

pub driver_after_const : (insts : List Instance) (gone n : ℕ) → driver_of (map (inst_after (Const gone)) insts) n ≡ driver_of insts n
driver_after_const insts gone n =
    position-map (inst_after (Const gone)) (drives n) insts
    ∙ position_agrees (λ i. false) (λ i. drives n (inst_after (Const gone) i)) (drives n) insts (none_ruled_out insts) (λ i h. drives_const gone n i)
  where
    none_ruled_out : (xs : List Instance) → list_any (λ (i : Instance). false) xs ≡ false
    none_ruled_out [] = refl
    none_ruled_out (x ∷ xs) = none_ruled_out xs

-- ---- an instance with another output

own_net : (n : ℕ) (i : Instance) → last_of i.pins ≡ Some (Net n) → drives n i ≡ true
own_net n i is = ap (is_net n) is ∙ eq_refl n

other_net : (m n : ℕ) (i : Instance) → last_of i.pins ≡ Some (Net m) → nat_eq m n ≡ false → drives n i ≡ false
other_net m n i is apart =
    let flip : nat_eq n m ≡ false = grind (arith, nat_tests) in
    ap (is_net n) is ∙ flip

pub set_get : {A : Type 0} (xs : List A) (k : ℕ) (y : A) → k < length xs → slice_get (set xs k y) k ≡ Some y
set_get [] k y low = absurd (omega arith)
set_get (x ∷ xs) zero y low = refl
set_get (x ∷ xs) (suc k) y low = set_get xs k y (omega arith)

pub driver_moved : (insts : List Instance) (at old net n : ℕ) (x y : Instance) → HaveOneDriver insts → slice_get insts at ≡ Some x → last_of x.pins ≡ Some (Net old) → last_of y.pins ≡ Some (Net net)
    → ((k : ℕ) → driver_of insts net ≡ Some k → k ≡ at) → driver_of (set insts at y) n ≡ cond (nat_eq net n) (Some at) (cond (nat_eq old n) None (driver_of insts n))
driver_moved insts at old net n x y one is out out' free = by (nat_eq net n) (nat_eq old n) refl refl
  where
    low : at < length insts
    low = slice_get_within insts at x is

    by : (b c : Bool) → nat_eq net n ≡ b → nat_eq old n ≡ c → driver_of (set insts at y) n ≡ cond b (Some at) (cond c None (driver_of insts n))
    by true c e f =
        let same : net ≡ n = grind (arith, nat_tests) in
        let owns : drives n y ≡ true = subst (λ m. drives m y ≡ true) same (own_net net y out') in
        position_only (drives n) (set insts at y) at y (set_get insts at y low) owns (λ k z at_k t. elim (set_cases insts at k y z at_k) [
          | inl h ↦ h.0
          | inr h ↦ free k (ap (driver_of insts) same ∙ one.one k n z h.1 t)
        ])
    by false true e f =
        let same : old ≡ n = grind (arith, nat_tests) in
        let here : driver_of insts n ≡ Some at = one.one at n x is (subst (λ m. drives m x ≡ true) same (own_net old x out)) in
        none_at (drives n) (set insts at y) (λ k z at_k. elim (set_cases insts at k y z at_k) [
          | inl h ↦ sym (ap (drives n) h.1) ∙ other_net net n y out' e
          | inr h ↦ not_true (drives n z) (λ t. h.0 (some_same k at (sym (one.one k n z h.1 t) ∙ here)))
        ])
    by false false e f =
        position_set (drives n) insts at y x (other_net net n y out' e ∙ sym (ap (drives n) (get_or_from_slice_get insts at x x is) ∙ other_net old n x out f))

-- an instance whose output stays
pub driver_kept : (insts : List Instance) (at n : ℕ) (d y : Instance) → last_of y.pins ≡ last_of (get_or insts at d).pins → driver_of (set insts at y) n ≡ driver_of insts n
driver_kept insts at n d y same = position_set (drives n) insts at y d (ap (is_net n) same)

-- the last of a list, once another element is another
pub last_set : {A : Type 0} (xs : List A) (k : ℕ) (y : A) → k + 1 < length xs → last_of (set xs k y) ≡ last_of xs
last_set [] k y low = absurd (omega arith)
last_set (x ∷ []) k y low = absurd (omega arith)
last_set {A = A} (x ∷ z ∷ zs) zero y low = by (last_of zs)
  where
    by : (o : Option A) → or_else (or_else o (Some z)) (Some y) ≡ or_else (or_else o (Some z)) (Some x)
    by None = refl
    by (Some w) = refl
last_set (x ∷ z ∷ zs) (suc k) y low = ap (λ o. or_else o (Some x)) (last_set (z ∷ zs) k y (omega arith))

-- the last of a list, once it is another
pub last_set_end : {A : Type 0} (xs : List A) (k : ℕ) (y : A) → length xs ≡ k + 1 → last_of (set xs k y) ≡ Some y
last_set_end [] k y e = absurd (omega arith)
last_set_end (x ∷ []) zero y e = refl
last_set_end (x ∷ []) (suc k) y e = absurd (omega arith)
last_set_end (x ∷ z ∷ zs) zero y e = absurd (omega arith)
last_set_end (x ∷ z ∷ zs) (suc k) y e = ap (λ o. or_else o (Some x)) (last_set_end (z ∷ zs) k y (omega arith))

-- the last of a list stands at its last place
pub last_at : {A : Type 0} (xs : List A) → slice_get xs (length xs - 1) ≡ last_of xs
last_at [] = refl
last_at (x ∷ []) = let e : length (x ∷ []) - 1 ≡ 0 = omega arith in ap (slice_get (x ∷ [])) e
last_at {A = A} (x ∷ y ∷ ys) =
    let e : length (x ∷ y ∷ ys) - 1 ≡ suc (length (y ∷ ys) - 1) = omega arith in
    ap (slice_get (x ∷ y ∷ ys)) e ∙ last_at (y ∷ ys) ∙ by (last_of ys)
  where
    by : (o : Option A) → or_else o (Some y) ≡ or_else (or_else o (Some y)) (Some x)
    by None = refl
    by (Some z) = refl
