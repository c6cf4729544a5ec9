-- How many pins are on a net or constant.
use Rattle.std.proofs.Common.{◌≡◌, ℕ, ◌+◌, ◌<◌, ◌||◌, List, [], ◌∷◌, length, map, set, get_or, suc, zero, nat_lt, nat_eq, Bool, true, false, cond, Some, slice_get, refl, sym, ap, ◌∙◌, arith}
use Rattle.std.specs.List.{list_any}
use Rattle.std.proofs.lemmas.Bool.Decides.{nat_tests}
use Rattle.std.proofs.lemmas.List.Sums.{sum_by-cons, sum_by-set}
use Rattle.std.proofs.lemmas.Option.{get_or_from_slice_get, slice_get_within}
use Rattle.netlist_model.specs.Deletions.{inst_after, is_pinned, is_same, moved_up, ref_after}
use Rattle.netlist_model.specs.Uses.{IsBehind, moved_back, one_on, pins_on, ref_before, uses_of}
use Rattle.netlist_model.specs.declared.parts.Instance.{Instance}
use Rattle.netlist_model.specs.declared.parts.NetRef.{NetRef}
use Rattle.netlist_model.specs.declared.parts.NetRef.TheVariants.{Net, Const}

-- an instance with the same pins in its place
pub uses_kept : (insts : List Instance) (at : ℕ) (y d : Instance) (r : NetRef) → at < length insts → y.pins ≡ (get_or insts at d).pins → uses_of (set insts at y) r ≡ uses_of insts r
uses_kept insts at y d r low same = omega (arith, sum_by-set (λ i. pins_on r i.pins) insts at y d low, ap (pins_on r) same)

-- an instance with another pin in its place
pub uses_moved : (insts : List Instance) (at pin : ℕ) (y x : Instance) (to from r : NetRef) → slice_get insts at ≡ Some x → slice_get x.pins pin ≡ Some from → y.pins ≡ set x.pins pin to
    → uses_of insts r + one_on r to ≡ uses_of (set insts at y) r + one_on r from
uses_moved insts at pin y x to from r here there is =
    omega (
      arith,
      sum_by-set (λ i. pins_on r i.pins) insts at y x (slice_get_within insts at x here),
      ap (λ (i : Instance). pins_on r i.pins) (get_or_from_slice_get insts at x x here),
      ap (pins_on r) is,
      sum_by-set (one_on r) x.pins pin to from (slice_get_within x.pins pin from there),
      ap (one_on r) (get_or_from_slice_get x.pins pin from from there),
    )

-- ---- what is named

-- a sum that is above 0 has a term that is
some_more : (b : Bool) (n : ℕ) → (b || nat_lt 0 n) ≡ nat_lt 0 (cond b 1 0 + n)
some_more true n = grind (arith, nat_tests)
some_more false n = grind (arith, nat_tests)

either_some : (m n : ℕ) → (nat_lt 0 m || nat_lt 0 n) ≡ nat_lt 0 (m + n)
either_some zero n = grind (arith, nat_tests)
either_some (suc m) n = grind (arith, nat_tests)

any_pins : (r : NetRef) (pins : List NetRef) → list_any (is_same r) pins ≡ nat_lt 0 (pins_on r pins)
any_pins r [] = refl
any_pins r (p ∷ ps) = ap (λ b. is_same r p || b) (any_pins r ps) ∙ some_more (is_same r p) (pins_on r ps) ∙ ap (nat_lt 0) (sym (sum_by-cons (one_on r) p ps))

pub any_uses : (r : NetRef) (insts : List Instance) → list_any (is_pinned r) insts ≡ nat_lt 0 (uses_of insts r)
any_uses r [] = refl
any_uses r (i ∷ is) =
    ap (λ b. is_pinned r i || b) (any_uses r is) ∙ ap (λ b. b || nat_lt 0 (uses_of is r)) (any_pins r i.pins) ∙ either_some (pins_on r i.pins) (uses_of is r)
    ∙ ap (nat_lt 0) (sym (sum_by-cons (λ (x : Instance). pins_on r x.pins) i is))

-- ---- once a net or constant is away

no_either : (a b : Bool) → (a || b) ≡ false → (a ≡ false) × (b ≡ false)
no_either true b h = cc
no_either false true h = cc
no_either false false h = (refl, refl)

place_moved : (gone n m : ℕ) → nat_eq gone m ≡ false → nat_eq n (moved_up gone m) ≡ nat_eq (moved_back gone n) m
place_moved gone n m h = grind (arith, nat_tests)

one_after : (gone r pin : NetRef) → is_same gone pin ≡ false → one_on r (ref_after gone pin) ≡ one_on (ref_before gone r) pin
one_after (Net g) (Net n) (Net m) other = ap (λ b. cond b 1 0) (place_moved g n m other)
one_after (Net g) (Net n) (Const l) other = refl
one_after (Net g) (Const k) (Net m) other = refl
one_after (Net g) (Const k) (Const l) other = refl
one_after (Const g) (Net n) (Net m) other = refl
one_after (Const g) (Net n) (Const l) other = refl
one_after (Const g) (Const k) (Net m) other = refl
one_after (Const g) (Const k) (Const l) other = ap (λ b. cond b 1 0) (place_moved g k l other)

pins_after : (gone r : NetRef) (pins : List NetRef) → list_any (is_same gone) pins ≡ false → pins_on r (map (ref_after gone) pins) ≡ pins_on (ref_before gone r) pins
pins_after gone r [] free = refl
pins_after gone r (p ∷ ps) free =
    let (here, rest) = no_either (is_same gone p) (list_any (is_same gone) ps) free in
    omega (arith, sum_by-cons (one_on r) (ref_after gone p) (map (ref_after gone) ps), sum_by-cons (one_on (ref_before gone r)) p ps, one_after gone r p here, pins_after gone r ps rest)

pub uses_after : (gone r : NetRef) (insts : List Instance) → list_any (is_pinned gone) insts ≡ false → uses_of (map (inst_after gone) insts) r ≡ uses_of insts (ref_before gone r)
uses_after gone r [] free = refl
uses_after gone r (i ∷ is) free =
    let (here, rest) = no_either (is_pinned gone i) (list_any (is_pinned gone) is) free in
    omega (arith, sum_by-cons (λ (x : Instance). pins_on r x.pins) (inst_after gone i) (map (inst_after gone) is), sum_by-cons (λ (x : Instance). pins_on (ref_before gone r) x.pins) i is, pins_after gone r i.pins here, uses_after gone r is rest)

-- a pin that is on nothing behind what is away
same_one : (r : NetRef) → one_on r r ≡ 1
same_one (Net n) = grind (arith, nat_tests)
same_one (Const k) = grind (arith, nat_tests)

still_one : (gone pin : NetRef) → is_same gone pin ≡ false → (IsBehind gone pin → ⊥) → ref_after gone pin ≡ pin
still_one (Net g) (Net n) other low = let e : nat_lt g n ≡ false = by (nat_lt g n) refl in rw e refl
  where
    by : (b : Bool) → nat_lt g n ≡ b → b ≡ false
    by true e = absurd (low (grind (arith, nat_tests)))
    by false e = refl
still_one (Net g) (Const k) other low = refl
still_one (Const g) (Net n) other low = refl
still_one (Const g) (Const k) other low = let e : nat_lt g k ≡ false = by (nat_lt g k) refl in rw e refl
  where
    by : (b : Bool) → nat_lt g k ≡ b → b ≡ false
    by true e = absurd (low (grind (arith, nat_tests)))
    by false e = refl

pins_still : (gone : NetRef) (pins : List NetRef) → list_any (is_same gone) pins ≡ false → ((r : NetRef) → IsBehind gone r → pins_on r pins ≡ 0) → map (ref_after gone) pins ≡ pins
pins_still gone [] free none = refl
pins_still gone (p ∷ ps) free none =
    let (here, rest) = no_either (is_same gone p) (list_any (is_same gone) ps) free in
    rw (
      still_one gone p here (λ b. omega (arith, none p b, sum_by-cons (one_on p) p ps, same_one p)),
      pins_still gone ps rest (λ r b. omega (arith, none r b, sum_by-cons (one_on r) p ps)),
    ) refl

pub insts_still : (gone : NetRef) (insts : List Instance) → list_any (is_pinned gone) insts ≡ false → ((r : NetRef) → IsBehind gone r → uses_of insts r ≡ 0) → map (inst_after gone) insts ≡ insts
insts_still gone [] free none = refl
insts_still gone (i ∷ is) free none =
    let (here, rest) = no_either (is_pinned gone i) (list_any (is_pinned gone) is) free in
    rw (
      pins_still gone i.pins here (λ r b. omega (arith, none r b, sum_by-cons (λ (x : Instance). pins_on r x.pins) i is)),
      insts_still gone is rest (λ r b. omega (arith, none r b, sum_by-cons (λ (x : Instance). pins_on r x.pins) i is)),
    ) refl
