-- How many events of ticks are of a net.
use Rattle.std.proofs.Common.{◌≡◌, ℕ, ◌+◌, ◌-◌, ◌*◌, ◌/◌, ◌%◌, ◌<◌, ◌≤◌, ◌==◌, ◌||◌, not, List, [], ◌∷◌, length, map, filter, suc, zero, nat_lt, nat_eq, Bool, true, false, cond, refl, sym, ap, ◌∙◌, arith, if◌then◌else◌}
use Rattle.std.specs.List.{list_any, flat_map}
use Rattle.std.proofs.lemmas.Bool.Decides.{nat_tests}
use Rattle.std.proofs.lemmas.List.Folds.{list_any-append}
use Rattle.std.proofs.lemmas.List.Sums.{count_by-le-length, length-filter, sum_by-append, sum_by-cons}
use Rattle.netlist_model.specs.Circuit.{is_between}
use Rattle.netlist_model.specs.Deletions.{event_after, is_event_of, is_ticked, tick_after}
use Rattle.netlist_model.specs.Uses.{ends_of, ends_on, many_at, moved_back}
use Rattle.netlist_model.specs.declared.parts.Tick.{Tick}

no_either : (a b : Bool) → (a || b) ≡ false → (a ≡ false) × (b ≡ false)
no_either true b h = cc
no_either false true h = cc
no_either false false h = (refl, refl)

some_of : (a b : Bool) (n : ℕ) → ((a || b) || nat_lt 0 n) ≡ nat_lt 0 (cond a 1 0 + cond b 1 0 + n)
some_of true b n = grind (arith, nat_tests)
some_of false true n = grind (arith, nat_tests)
some_of false false n = grind (arith, nat_tests)

pub any_ends : (n : ℕ) (ticks : List Tick) → list_any (is_ticked n) ticks ≡ nat_lt 0 (ends_of ticks n)
any_ends n [] = refl
any_ends n (t ∷ ts) =
    ap (λ b. is_ticked n t || b) (any_ends n ts) ∙ some_of (is_event_of n t.source) (is_event_of n t.target) (ends_of ts n) ∙ ap (nat_lt 0) (sym (sum_by-cons (ends_on n) t ts))

-- ---- the ticks of a pair away

ends_between : (n s t : ℕ) (x : Tick) → is_between s t x ≡ true → ends_on n x ≡ many_at 1 (s / 2) n + many_at 1 (t / 2) n
ends_between n s t x is =
    let a : x.source ≡ s = grind (arith, nat_tests) in
    let b : x.target ≡ t = grind (arith, nat_tests) in
    rw (a, b) refl

pub ends_taken : (n s t gone : ℕ) (ticks : List Tick) → gone + length (filter (λ x. not (is_between s t x)) ticks) ≡ length ticks
    → ends_of ticks n ≡ ends_of (filter (λ x. not (is_between s t x)) ticks) n + many_at gone (t / 2) n + many_at gone (s / 2) n
ends_taken n s t gone [] count = by (nat_eq n (t / 2)) (nat_eq n (s / 2)) (let z : gone ≡ 0 = omega (arith, count) in z)
  where
    by : (a b : Bool) → gone ≡ 0 → 0 ≡ 0 + cond a gone 0 + cond b gone 0
    by true true z = omega (arith, z)
    by true false z = omega (arith, z)
    by false true z = omega (arith, z)
    by false false z = omega arith
ends_taken n s t gone (x ∷ xs) count = by (is_between s t x) refl (λ g c. ends_taken n s t g xs c)
  where
    others : List Tick
    others = filter (λ y. not (is_between s t y)) xs

    few : length others ≤ length xs
    few = omega (arith, length-filter (λ y. not (is_between s t y)) xs, count_by-le-length (λ y. not (is_between s t y)) xs)

    one_less : (a b : Bool) (g m k : ℕ) → m ≡ k + cond b g 0 + cond a g 0 → cond a 1 0 + cond b 1 0 + m ≡ k + cond b (suc g) 0 + cond a (suc g) 0
    one_less true true g m k h = omega (arith, h)
    one_less true false g m k h = omega (arith, h)
    one_less false true g m k h = omega (arith, h)
    one_less false false g m k h = omega (arith, h)

    taken : is_between s t x ≡ true → ((g : ℕ) → g + length others ≡ length xs → ends_of xs n ≡ ends_of others n + many_at g (t / 2) n + many_at g (s / 2) n)
        → (g : ℕ) → g + length others ≡ suc (length xs) → ends_of (x ∷ xs) n ≡ ends_of others n + many_at g (t / 2) n + many_at g (s / 2) n
    taken e rest zero c = absurd (omega (arith, few, c))
    taken e rest (suc g) c =
        sum_by-cons (ends_on n) x xs ∙ ap (λ m. m + ends_of xs n) (ends_between n s t x e)
        ∙ one_less (nat_eq n (s / 2)) (nat_eq n (t / 2)) g (ends_of xs n) (ends_of others n) (rest g (omega (arith, c)))

    by : (b : Bool) → is_between s t x ≡ b → ((g : ℕ) → g + length others ≡ length xs → ends_of xs n ≡ ends_of others n + many_at g (t / 2) n + many_at g (s / 2) n)
        → ends_of (x ∷ xs) n ≡ ends_of (filter (λ y. not (is_between s t y)) (x ∷ xs)) n + many_at gone (t / 2) n + many_at gone (s / 2) n
    by true e rest = let c : gone + length others ≡ suc (length xs) = rw e at count in rw e (taken e rest gone c)
    by false e rest =
        let c : gone + suc (length others) ≡ suc (length xs) = rw e at count in
        rw e (omega (arith, sum_by-cons (ends_on n) x xs, sum_by-cons (ends_on n) x others, rest gone (omega (arith, c))))

-- ---- once a net is away

event_moved : (gone n e : ℕ) → is_event_of gone e ≡ false → (n == event_after gone e / 2) ≡ (moved_back gone n == e / 2)
event_moved gone n e other = grind (arith, nat_tests)

ends_on_after : (gone n : ℕ) (x : Tick) → is_ticked gone x ≡ false → ends_on n (tick_after gone x) ≡ ends_on (moved_back gone n) x
ends_on_after gone n x free =
    let (a, b) = no_either (is_event_of gone x.source) (is_event_of gone x.target) free in
    rw (event_moved gone n x.source a, event_moved gone n x.target b) refl

pub ends_after : (gone n : ℕ) (ticks : List Tick) → list_any (is_ticked gone) ticks ≡ false → ends_of (map (tick_after gone) ticks) n ≡ ends_of ticks (moved_back gone n)
ends_after gone n [] free = refl
ends_after gone n (x ∷ xs) free =
    let (here, rest) = no_either (is_ticked gone x) (list_any (is_ticked gone) xs) free in
    omega (arith, sum_by-cons (ends_on n) (tick_after gone x) (map (tick_after gone) xs), sum_by-cons (ends_on (moved_back gone n)) x xs, ends_on_after gone n x here, ends_after gone n xs rest)

-- a tick that is of no net behind the one that is away
still_event : (gone e : ℕ) → is_event_of gone e ≡ false → (gone < e / 2 → ⊥) → event_after gone e ≡ e
still_event gone e other low = by (nat_lt gone (e / 2)) refl
  where
    by : (b : Bool) → nat_lt gone (e / 2) ≡ b → 2 * (if b then e / 2 - 1 else e / 2) + e % 2 ≡ e
    by true f = absurd (low (grind (arith, nat_tests)))
    by false f = omega arith

same_net : (n : ℕ) → many_at 1 n n ≡ 1
same_net n = grind (arith, nat_tests)

still_tick : (gone : ℕ) (x : Tick) → is_ticked gone x ≡ false → ((n : ℕ) → gone < n → ends_on n x ≡ 0) → tick_after gone x ≡ x
still_tick gone x free none =
    let (a, b) = no_either (is_event_of gone x.source) (is_event_of gone x.target) free in
    rw (
      still_event gone x.source a (λ h. omega (arith, none (x.source / 2) h, same_net (x.source / 2))),
      still_event gone x.target b (λ h. omega (arith, none (x.target / 2) h, same_net (x.target / 2))),
    ) refl

ticks_still : (gone : ℕ) (ticks : List Tick) → list_any (is_ticked gone) ticks ≡ false → ((n : ℕ) → gone < n → ends_of ticks n ≡ 0) → map (tick_after gone) ticks ≡ ticks
ticks_still gone [] free none = refl
ticks_still gone (x ∷ xs) free none =
    let (here, rest) = no_either (is_ticked gone x) (list_any (is_ticked gone) xs) free in
    rw (
      still_tick gone x here (λ n h. omega (arith, none n h, sum_by-cons (ends_on n) x xs)),
      ticks_still gone xs rest (λ n h. omega (arith, none n h, sum_by-cons (ends_on n) x xs)),
    ) refl

pub blocks_still : (gone : ℕ) (blocks : List (List Tick)) → list_any (is_ticked gone) (flat_map (λ b. b) blocks) ≡ false → ((n : ℕ) → gone < n → ends_of (flat_map (λ b. b) blocks) n ≡ 0)
    → map (map (tick_after gone)) blocks ≡ blocks
blocks_still gone [] free none = refl
blocks_still gone (b ∷ bs) free none =
    let rest_of = flat_map (λ c. c) bs in
    let (here, rest) = no_either (list_any (is_ticked gone) b) (list_any (is_ticked gone) rest_of) (sym (list_any-append (is_ticked gone) b rest_of) ∙ free) in
    rw (
      ticks_still gone b here (λ n h. omega (arith, none n h, sum_by-append (ends_on n) b rest_of)),
      blocks_still gone bs rest (λ n h. omega (arith, none n h, sum_by-append (ends_on n) b rest_of)),
    ) refl
