-- The greatest weight of cycles, one first rule after the other, and the test of the period.
use Rattle.std.proofs.Common.{◌≡◌, ℕ, ◌+◌, ◌*◌, ◌<◌, ◌≤◌, ℤ, pos, ◌+ℤ◌, ◌≤ℤ◌, ◌<ℤ◌, Option, Some, None, List, [], ◌∷◌, length, refl, sym, ap, subst, ◌∙◌, arith, ◌⊎◌, inl, inr, Bool, IsTrue, ◌↔◌}
use Rattle.std.specs.Int.{IsGcd, int_max}
use Rattle.std.proofs.lemmas.Bool.{cases_lt}
use Rattle.std.proofs.lemmas.Int.{ints, clamps, by_lt_z}
use Rattle.rule_system.specs.declared.rules.Rule.{Rule}
use Rattle.rule_system.specs.Rules.{rule_at, source_of, target_of, delay_sum, offset_sum}
use Rattle.rule_system.specs.Walks.{IsCycle, IsSimpleCycle, EndsBelow}
use Rattle.rule_system.specs.Weights.{weight, rule_weight, HasNoGain, Gains, Attains, IsPeriod, ShortWalkAtLeast, GainCycle}
use Rattle.rule_system.specs.Plain.{IsShortWalk, IsGreatest, IsGreatestClosing, greater_of, after_rule}
use Rattle.rule_system.proofs.Arrivals.{gain_weighs, attained_weighs}
use Rattle.rule_system.proofs.Erase.{short_walk, gain_cycle}
use Rattle.rule_system.proofs.Paths.{simple_cycle_short}
use Rattle.rule_system.proofs.Weights.{weight-cons}

-- a rule before the greatest walk from its target back to its source
pub closing : (top bottom : ℕ) (rs : List Rule) (left n : ℕ) (rest : Option ℤ) → IsGreatest top bottom rs left (target_of rs n) (source_of rs n) rest → IsGreatestClosing top bottom rs left n (after_rule (rule_weight top bottom (rule_at rs n)) rest)
closing top bottom rs left n None h = h
closing top bottom rs left n (Some rest) h = ((h.walk, h.is_walk, sums), at_most)
  where
    sums : weight top bottom rs (n ∷ h.walk) ≡ rule_weight top bottom (rule_at rs n) +ℤ rest
    sums =
        let e : weight top bottom rs (n ∷ h.walk) ≡ rule_weight top bottom (rule_at rs n) +ℤ weight top bottom rs h.walk = weight-cons top bottom rs n h.walk in
        let f : weight top bottom rs h.walk ≡ rest = h.attained in
        omega (arith, ints)

    at_most : (v : List ℕ) → IsShortWalk rs left (target_of rs n) v (source_of rs n) → weight top bottom rs (n ∷ v) ≤ℤ (rule_weight top bottom (rule_at rs n) +ℤ rest)
    at_most v w =
        let e : weight top bottom rs (n ∷ v) ≡ rule_weight top bottom (rule_at rs n) +ℤ weight top bottom rs v = weight-cons top bottom rs n v in
        let f : weight top bottom rs v ≤ℤ rest = h.greatest v w in
        omega (arith, ints)

-- a cycle that begins with a rule below a number, and has at most so many rules more, of this weight
pub record ClosingBelow (top bottom : ℕ) (rs : List Rule) (left heads : ℕ) (time : ℤ) : Type 0 where
  pub first : ℕ
  pub rest : List ℕ
  pub below : first < heads
  pub is_walk : IsShortWalk rs left (target_of rs first) rest (source_of rs first)
  pub attained : weight top bottom rs (first ∷ rest) ≡ time

-- the greatest weight of these cycles, or none where there is none
abbrev pub IsGreatestBelow : ℕ → ℕ → List Rule → ℕ → ℕ → Option ℤ → Type 0
IsGreatestBelow top bottom rs left heads None = (n : ℕ) (w : List ℕ) → n < heads → IsShortWalk rs left (target_of rs n) w (source_of rs n) → ⊥
IsGreatestBelow top bottom rs left heads (Some time) =
    ClosingBelow top bottom rs left heads time
    × ((n : ℕ) (w : List ℕ) → n < heads → IsShortWalk rs left (target_of rs n) w (source_of rs n) → weight top bottom rs (n ∷ w) ≤ℤ time)

pub none_below : (top bottom : ℕ) (rs : List Rule) (left : ℕ) → IsGreatestBelow top bottom rs left 0 None
none_below top bottom rs left n w l h = omega arith

wider : (top bottom : ℕ) (rs : List Rule) (left i : ℕ) (x y : ℤ) → x ≡ y → ClosingBelow top bottom rs left i x → ClosingBelow top bottom rs left (i + 1) y
wider top bottom rs left i x y e h = record { first = h.first; rest = h.rest; below = let l : h.first < i = h.below in omega arith; is_walk = h.is_walk; attained = h.attained ∙ e }

last : (top bottom : ℕ) (rs : List Rule) (left i : ℕ) (x y : ℤ) → x ≡ y → (walk : List ℕ) × IsShortWalk rs left (target_of rs i) walk (source_of rs i) × (weight top bottom rs (i ∷ walk) ≡ x) → ClosingBelow top bottom rs left (i + 1) y
last top bottom rs left i x y e h = record { first = i; rest = h.0; below = omega arith; is_walk = h.1; attained = h.2 ∙ e }

-- what holds of the rules below a number and of the next one holds of all up to it
up_to : (i : ℕ) (P : ℕ → Type 0) → ((n : ℕ) → n < i → P n) → P i → (n : ℕ) → n < i + 1 → P n
up_to i P h k n l = go (cases_lt n i)
  where
    go : (n < i) ⊎ (i ≤ n) → P n
    go (inl m) = h n m
    go (inr m) = subst P (let e : i ≡ n = omega arith in e) k

-- one rule more
pub next_closing : (top bottom : ℕ) (rs : List Rule) (left i : ℕ) (old new : Option ℤ) → IsGreatestBelow top bottom rs left i old → IsGreatestClosing top bottom rs left i new → IsGreatestBelow top bottom rs left (i + 1) (greater_of old new)
next_closing top bottom rs left i None None h k = λ n w l. up_to i (λ (m : ℕ). (w : List ℕ) → IsShortWalk rs left (target_of rs m) w (source_of rs m) → ⊥) (λ m p v. h m v p) k n l w
next_closing top bottom rs left i None (Some y) h k = (last top bottom rs left i y y refl k.0, λ n w l. up_to i (λ (m : ℕ). (w : List ℕ) → IsShortWalk rs left (target_of rs m) w (source_of rs m) → weight top bottom rs (m ∷ w) ≤ℤ y) (λ m p v q. absurd (h m v p q)) k.1 n l w)
next_closing top bottom rs left i (Some x) None h k = (wider top bottom rs left i x x refl h.0, λ n w l. up_to i (λ (m : ℕ). (w : List ℕ) → IsShortWalk rs left (target_of rs m) w (source_of rs m) → weight top bottom rs (m ∷ w) ≤ℤ x) (λ m p v q. h.1 m v p q) (λ v q. absurd (k v q)) n l w)
next_closing top bottom rs left i (Some x) (Some y) h k = (pick (at_top x y), λ n w l. up_to i (λ (m : ℕ). (w : List ℕ) → IsShortWalk rs left (target_of rs m) w (source_of rs m) → weight top bottom rs (m ∷ w) ≤ℤ int_max x y) below here n l w)
  where
    at_top : (x y : ℤ) → (int_max x y ≡ x) ⊎ (int_max x y ≡ y)
    at_top x y = by_lt_z x y (λ (l : x <ℤ y). inr (omega (arith, ints, clamps))) (λ (l : y ≤ℤ x). inl (omega (arith, ints, clamps)))

    pick : (int_max x y ≡ x) ⊎ (int_max x y ≡ y) → ClosingBelow top bottom rs left (i + 1) (int_max x y)
    pick (inl e) = wider top bottom rs left i x (int_max x y) (sym e) h.0
    pick (inr e) = last top bottom rs left i y (int_max x y) (sym e) k.0

    below : (m : ℕ) → m < i → (v : List ℕ) → IsShortWalk rs left (target_of rs m) v (source_of rs m) → weight top bottom rs (m ∷ v) ≤ℤ int_max x y
    below m p v q = let e : weight top bottom rs (m ∷ v) ≤ℤ x = h.1 m v p q in omega (arith, ints, clamps)

    here : (v : List ℕ) → IsShortWalk rs left (target_of rs i) v (source_of rs i) → weight top bottom rs (i ∷ v) ≤ℤ int_max x y
    here v q = let e : weight top bottom rs (i ∷ v) ≤ℤ y = k.1 v q in omega (arith, ints, clamps)

-- where the greatest weight of short cycles is 0, no cycle gains
no_gain : (top bottom events : ℕ) (rs : List Rule) (heads : ℕ) → EndsBelow events rs → length rs ≤ heads → IsGreatestBelow top bottom rs events heads (Some (pos 0)) → HasNoGain top bottom rs
no_gain top bottom events rs heads ends enough h cycle c = go (cases_lt (top * offset_sum rs cycle) (bottom * delay_sum rs cycle))
  where
    never : (simple : List ℕ) → IsSimpleCycle rs simple → Gains top bottom rs simple → ⊥
    never [] s g = s.0
    never (n ∷ w) s g =
        let inside : n < length rs = s.0.0 in
        let short : length (n ∷ w) ≤ events = simple_cycle_short rs events ends (n ∷ w) s in
        let most : weight top bottom rs (n ∷ w) ≤ℤ pos 0 = h.1 n w (omega arith) (record { is_walk = s.0.2; is_short = omega arith }) in
        let more : pos 0 <ℤ weight top bottom rs (n ∷ w) = (gain_weighs top bottom rs (n ∷ w)).0 g in
        absurd (omega (arith, ints))

    go : (top * offset_sum rs cycle < bottom * delay_sum rs cycle) ⊎ (bottom * delay_sum rs cycle ≤ top * offset_sum rs cycle) → bottom * delay_sum rs cycle ≤ top * offset_sum rs cycle
    go (inl g) = let s : GainCycle top bottom rs = gain_cycle top bottom rs cycle c g in absurd (never s.cycle s.is_simple s.gains)
    go (inr l) = l

-- and the ratio is the period
shows_period : (top bottom events : ℕ) (rs : List Rule) (heads : ℕ) → EndsBelow events rs → length rs ≤ heads → heads ≤ length rs → 1 ≤ bottom → IsGcd top bottom 1 → IsGreatestBelow top bottom rs events heads (Some (pos 0)) → IsPeriod rs top bottom
shows_period top bottom events rs heads ends enough no_more p g h = record {
  positive = p;
  lowest = g;
  cycle = h.0.first ∷ h.0.rest;
  is_cycle = (let l : h.0.first < heads = h.0.below in omega arith, refl, h.0.is_walk.is_walk);
  attained = (attained_weighs top bottom rs (h.0.first ∷ h.0.rest)).1 h.0.attained;
  greatest = no_gain top bottom events rs heads ends enough h;
}

-- a short cycle that loses nothing
record ShortEven (top bottom events : ℕ) (rs : List Rule) : Type 0 where
  first : ℕ
  rest : List ℕ
  inside : first < length rs
  is_walk : IsShortWalk rs events (target_of rs first) rest (source_of rs first)
  at_least : pos 0 ≤ℤ weight top bottom rs (first ∷ rest)

short_even : (top bottom events : ℕ) (rs : List Rule) → EndsBelow events rs → HasNoGain top bottom rs → (cycle : List ℕ) → IsCycle rs cycle → Attains top bottom rs cycle → ShortEven top bottom events rs
short_even top bottom events rs ends none [] c a = absurd c
short_even top bottom events rs ends none (n ∷ w) c a =
    let s : ShortWalkAtLeast top bottom events rs (target_of rs n) w (source_of rs n) = short_walk top bottom events rs ends none (target_of rs n) w (source_of rs n) (ends n c.0).1 c.2 in
    let even : weight top bottom rs (n ∷ w) ≡ pos 0 = (attained_weighs top bottom rs (n ∷ w)).0 a in
    let e : weight top bottom rs (n ∷ w) ≡ rule_weight top bottom (rule_at rs n) +ℤ weight top bottom rs w = weight-cons top bottom rs n w in
    let f : weight top bottom rs (n ∷ s.short) ≡ rule_weight top bottom (rule_at rs n) +ℤ weight top bottom rs s.short = weight-cons top bottom rs n s.short in
    let g : weight top bottom rs w ≤ℤ weight top bottom rs s.short = s.at_least in
    record { first = n; rest = s.short; inside = c.0; is_walk = record { is_walk = s.is_walk; is_short = let l : length s.short < events = s.is_short in omega arith }; at_least = omega (arith, ints) }

-- where there is no short cycle, it is not
shows_none : (top bottom events : ℕ) (rs : List Rule) (heads : ℕ) → EndsBelow events rs → length rs ≤ heads → IsGreatestBelow top bottom rs events heads None → IsPeriod rs top bottom → ⊥
shows_none top bottom events rs heads ends enough h p =
    let s : ShortEven top bottom events rs = short_even top bottom events rs ends p.greatest p.cycle p.is_cycle p.attained in
    h s.first s.rest (let l : s.first < length rs = s.inside in omega arith) s.is_walk

-- where it is the period, the greatest weight is 0
even : (top bottom events : ℕ) (rs : List Rule) (heads : ℕ) (time : ℤ) → EndsBelow events rs → length rs ≤ heads → heads ≤ length rs → IsGreatestBelow top bottom rs events heads (Some time) → IsPeriod rs top bottom → time ≡ pos 0
even top bottom events rs heads time ends enough no_more h p = let low : pos 0 ≤ℤ time = at_least in let high : time ≤ℤ pos 0 = at_most in omega (arith, ints)
  where
    s : ShortEven top bottom events rs
    s = short_even top bottom events rs ends p.greatest p.cycle p.is_cycle p.attained

    at_least : pos 0 ≤ℤ time
    at_least =
        let e : pos 0 ≤ℤ weight top bottom rs (s.first ∷ s.rest) = s.at_least in
        let f : weight top bottom rs (s.first ∷ s.rest) ≤ℤ time = h.1 s.first s.rest (let l : s.first < length rs = s.inside in omega arith) s.is_walk in
        omega (arith, ints)

    cycle : IsCycle rs (h.0.first ∷ h.0.rest)
    cycle = (let l : h.0.first < heads = h.0.below in omega arith, refl, h.0.is_walk.is_walk)

    at_most : time ≤ℤ pos 0
    at_most =
        let e : bottom * delay_sum rs (h.0.first ∷ h.0.rest) ≤ top * offset_sum rs (h.0.first ∷ h.0.rest) = p.greatest (h.0.first ∷ h.0.rest) cycle in
        let f : weight top bottom rs (h.0.first ∷ h.0.rest) ≡ time = h.0.attained in
        omega (arith, ints)

found : (top bottom events : ℕ) (rs : List Rule) (heads : ℕ) (best : Option ℤ) → EndsBelow events rs → length rs ≤ heads → heads ≤ length rs → IsGreatestBelow top bottom rs events heads best → IsPeriod rs top bottom → best ≡ Some (pos 0)
found top bottom events rs heads None ends enough no_more h p = absurd (shows_none top bottom events rs heads ends enough h p)
found top bottom events rs heads (Some time) ends enough no_more h p = ap (λ (z : ℤ). Some z) (even top bottom events rs heads time ends enough no_more h p)

pub judged : (top bottom events : ℕ) (rs : List Rule) (heads : ℕ) (best : Option ℤ) (b : Bool) → (IsTrue b ↔ (best ≡ Some (pos 0))) → EndsBelow events rs → length rs ≤ heads → heads ≤ length rs → 1 ≤ bottom → IsGcd top bottom 1 → IsGreatestBelow top bottom rs events heads best → IsTrue b ↔ IsPeriod rs top bottom
judged top bottom events rs heads best b e ends enough no_more p g h =
    (λ t. shows_period top bottom events rs heads ends enough no_more p g (subst (λ (o : Option ℤ). IsGreatestBelow top bottom rs events heads o) (e.0 t) h), λ q. e.1 (found top bottom events rs heads best ends enough no_more h q))
