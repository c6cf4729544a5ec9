-- A live system with a cycle has a period: the greatest ratio among its short cycles.
use Rattle.std.proofs.Common.{◌≡◌, ℕ, ◌*◌, ◌<◌, ◌≤◌, true, List, [], ◌∷◌, ◌++◌, length, refl, sym, subst, arith, ◌⊎◌, inl, inr}
use Rattle.std.proofs.lemmas.Bool.{cases_lt, cases_eq}
use Rattle.std.proofs.Math.Nat.{mul-le-mul_left, le_of_mul-le-mul_left}
use Rattle.rule_system.specs.declared.rules.Rule.{Rule}
use Rattle.rule_system.specs.Rules.{source_of, delay_sum, offset_sum}
use Rattle.rule_system.specs.Bounds.{IsSystem}
use Rattle.rule_system.specs.Walks.{IsWalk, IsCycle, IsKept, IsLive, IsConnected, EndsBelow}
use Rattle.rule_system.specs.Weights.{HasNoGain, IsPeriod, HasPeriod, GainCycle}
use Rattle.rule_system.proofs.Walks.{walk_join}
use Rattle.rule_system.proofs.Paths.{simple_cycle_short}
use Rattle.rule_system.proofs.Erase.{gain_cycle}
use Rattle.rule_system.proofs.Ratios.{lowest_least}
use Rattle.rule_system.proofs.Arrivals.{same_period}
use Rattle.rule_system.proofs.Sums.{ends_below, walk_sums}
use Rattle.rule_system.proofs.Lowest.{LowestTerms, lowest_terms}
use Rattle.rule_system.proofs.Search.{IsAmong, IsOrder, BestOrNone, search_best}
use Rattle.rule_system.proofs.WalkTests.{cycle_tested, cycle_numbers}
use Rattle.rule_system.proofs.FirstExists.{ShortBefore, shorten}

-- the second list has at least the first one's ratio
abbrev AtLeast : List Rule → List ℕ → List ℕ → Type 0
AtLeast rs v w = delay_sum rs v * offset_sum rs w ≤ delay_sum rs w * offset_sum rs v

ratios_join : (d o d' o' d'' o'' : ℕ) → 1 ≤ o' → d * o' ≤ d' * o → d' * o'' ≤ d'' * o' → d * o'' ≤ d'' * o
ratios_join d o d' o' d'' o'' p h k =
    let x : o'' * (d * o') ≤ o'' * (d' * o) = mul-le-mul_left o'' h in
    let y : o * (d' * o'') ≤ o * (d'' * o') = mul-le-mul_left o k in
    le_of_mul-le-mul_left {k = o'} (omega arith) p

-- a cycle of the greatest ratio, of at most as many rules as there are events
record SteepestCycle (events : ℕ) (rs : List Rule) : Type 0 where
  cycle : List ℕ
  is_cycle : IsCycle rs cycle
  is_short : length cycle ≤ events
  greatest : HasNoGain (delay_sum rs cycle) (offset_sum rs cycle) rs

steepest : (events : ℕ) (rs : List Rule) → EndsBelow events rs → IsLive rs → (cycle : List ℕ) → IsCycle rs cycle → SteepestCycle events rs
steepest events rs ends live cycle c = go (search_best (length rs) events (AtLeast rs) (IsCycle rs) order (cycle_tested rs))
  where
    order : IsOrder (AtLeast rs) (IsCycle rs)
    order = record {
      either = λ v w p q. either v w (cases_lt (delay_sum rs v * offset_sum rs w) (delay_sum rs w * offset_sum rs v));
      through = λ u v w p q r h k. ratios_join (delay_sum rs u) (offset_sum rs u) (delay_sum rs v) (offset_sum rs v) (delay_sum rs w) (offset_sum rs w) (live v q) h k;
    }
      where
        either : (v w : List ℕ) → (delay_sum rs v * offset_sum rs w < delay_sum rs w * offset_sum rs v) ⊎ (delay_sum rs w * offset_sum rs v ≤ delay_sum rs v * offset_sum rs w) → AtLeast rs v w ⊎ AtLeast rs w v
        either v w (inl h) = inl (omega arith)
        either v w (inr h) = inr h

    kept_all : (w : List ℕ) → IsKept (λ n. true) w
    kept_all [] = tt
    kept_all (n ∷ w) = (refl, kept_all w)

    go : BestOrNone (AtLeast rs) (λ w. IsAmong (length rs) events w × IsCycle rs w) → SteepestCycle events rs
    go (inr none) = let s : ShortBefore rs (λ n. true) events cycle = shorten events rs (λ n. true) ends cycle (c, kept_all cycle) in absurd (none s.cycle (s.is_among, s.is_kept.0))
    go (inl b) = record { cycle = b.list; is_cycle = b.passes.1; is_short = b.passes.0.0; greatest = λ other p. at_most other p (cases_lt (delay_sum rs b.list * offset_sum rs other) (offset_sum rs b.list * delay_sum rs other)) }
      where
        no_gain : GainCycle (delay_sum rs b.list) (offset_sum rs b.list) rs → ⊥
        no_gain g =
            let more : delay_sum rs b.list * offset_sum rs g.cycle < offset_sum rs b.list * delay_sum rs g.cycle = g.gains in
            let less : delay_sum rs g.cycle * offset_sum rs b.list ≤ delay_sum rs b.list * offset_sum rs g.cycle = b.best g.cycle ((simple_cycle_short rs events ends g.cycle g.is_simple, cycle_numbers rs g.cycle g.is_simple.0), g.is_simple.0) in
            omega arith

        at_most : (other : List ℕ) → IsCycle rs other → (delay_sum rs b.list * offset_sum rs other < offset_sum rs b.list * delay_sum rs other) ⊎ (offset_sum rs b.list * delay_sum rs other ≤ delay_sum rs b.list * offset_sum rs other) → offset_sum rs b.list * delay_sum rs other ≤ delay_sum rs b.list * offset_sum rs other
        at_most other p (inl h) = absurd (no_gain (gain_cycle (delay_sum rs b.list) (offset_sum rs b.list) rs other p h))
        at_most other p (inr h) = h

-- both sides over a factor
over : (f a b x y : ℕ) → 1 ≤ f → f * b * x ≤ f * a * y → b * x ≤ a * y
over f a b x y p h = le_of_mul-le-mul_left {k = f} (omega arith) p

pub record ShortPeriod (events : ℕ) (rs : List Rule) : Type 0 where
  pub top : ℕ
  pub bottom : ℕ
  pub is_period : IsPeriod rs top bottom
  pub is_short : length is_period.cycle ≤ events

pub short_period : (events : ℕ) (rs : List Rule) → EndsBelow events rs → IsLive rs → (cycle : List ℕ) → IsCycle rs cycle → ShortPeriod events rs
short_period events rs ends live cycle c = go (steepest events rs ends live cycle c)
  where
    go : SteepestCycle events rs → ShortPeriod events rs
    go s = reduced (lowest_terms (delay_sum rs s.cycle) (offset_sum rs s.cycle) (live s.cycle s.is_cycle))
      where
        reduced : LowestTerms (delay_sum rs s.cycle) (offset_sum rs s.cycle) → ShortPeriod events rs
        reduced t = record {
          top = t.top_lowest;
          bottom = t.bottom_lowest;
          is_period = record { positive = t.positive; lowest = t.lowest; cycle = s.cycle; is_cycle = s.is_cycle; attained = attained; greatest = bounds };
          is_short = s.is_short;
        }
          where
            is_top : delay_sum rs s.cycle ≡ t.factor * t.top_lowest
            is_top = t.is_top

            is_bottom : offset_sum rs s.cycle ≡ t.factor * t.bottom_lowest
            is_bottom = t.is_bottom

            attained : t.bottom_lowest * delay_sum rs s.cycle ≡ t.top_lowest * offset_sum rs s.cycle
            attained = rw (is_top, is_bottom) (omega arith)

            bounds : HasNoGain t.top_lowest t.bottom_lowest rs
            bounds other p =
                let h : offset_sum rs s.cycle * delay_sum rs other ≤ delay_sum rs s.cycle * offset_sum rs other = s.greatest other p in
                over t.factor t.top_lowest t.bottom_lowest (delay_sum rs other) (offset_sum rs other) t.some (rw (is_top, is_bottom) at h)

pub period_exists : (events : ℕ) (rs : List Rule) → EndsBelow events rs → IsLive rs → (cycle : List ℕ) → IsCycle rs cycle → HasPeriod rs
period_exists events rs ends live cycle c = let s : ShortPeriod events rs = short_period events rs ends live cycle c in record { top = s.top; bottom = s.bottom; is_period = s.is_period }

-- ---- how large a period is

small : (top bottom delay offset many few : ℕ) → 1 ≤ offset → bottom ≤ offset → bottom * delay ≡ top * offset → delay ≤ many → offset ≤ few → (top ≤ many) × (bottom ≤ few)
small top bottom delay offset many few p b e d o =
    let x : delay * bottom ≤ delay * offset = mul-le-mul_left delay b in
    let t : top ≤ delay = le_of_mul-le-mul_left {k = offset} (omega arith) p in
    (omega arith, omega arith)

pub period_small : (events : ℕ) (rs : List Rule) (top bottom : ℕ) → IsSystem events rs → IsLive rs → IsPeriod rs top bottom → (top ≤ 32768000000) × (bottom ≤ 491520)
period_small events rs top bottom h live p = go (short_period events rs (ends_below events rs h) live p.cycle p.is_cycle)
  where
    sums : (cycle : List ℕ) → IsCycle rs cycle → length cycle ≤ events → (delay_sum rs cycle ≤ 32768000000) × (offset_sum rs cycle ≤ 491520)
    sums [] c l = absurd c
    sums (n ∷ w) c l =
        let few : events ≤ 32768 = h.0 in
        let b : (delay_sum rs (n ∷ w) ≤ 1000000 * length (n ∷ w)) × (offset_sum rs (n ∷ w) ≤ 15 * length (n ∷ w)) = walk_sums events rs h (source_of rs n) (n ∷ w) (source_of rs n) c in
        (omega arith, omega arith)

    go : ShortPeriod events rs → (top ≤ 32768000000) × (bottom ≤ 491520)
    go s =
        let same : (top ≡ s.top) × (bottom ≡ s.bottom) = same_period rs top bottom s.top s.bottom live p s.is_period in
        let cycle : List ℕ = s.is_period.cycle in
        let some : 1 ≤ offset_sum rs s.is_period.cycle = live s.is_period.cycle s.is_period.is_cycle in
        let e : s.bottom * delay_sum rs s.is_period.cycle ≡ s.top * offset_sum rs s.is_period.cycle = s.is_period.attained in
        let b : s.bottom ≤ offset_sum rs s.is_period.cycle = lowest_least s.bottom s.top s.bottom (delay_sum rs s.is_period.cycle) (offset_sum rs s.is_period.cycle) (omega arith) s.is_period.lowest s.is_period.positive some (omega arith) in
        let l : (delay_sum rs s.is_period.cycle ≤ 32768000000) × (offset_sum rs s.is_period.cycle ≤ 491520) = sums s.is_period.cycle s.is_period.is_cycle s.is_short in
        let r : (s.top ≤ 32768000000) × (s.bottom ≤ 491520) = small s.top s.bottom (delay_sum rs s.is_period.cycle) (offset_sum rs s.is_period.cycle) 32768000000 491520 some b e l.0 l.1 in
        (omega arith, omega arith)

-- ---- a connected system has a cycle

closed : (rs : List Rule) (a b : ℕ) (v : List ℕ) → (a ≡ b → ⊥) → IsWalk rs a v b → (w : List ℕ) → IsWalk rs b w a → (cycle : List ℕ) × IsCycle rs cycle
closed rs a b [] d h w k = absurd (d h)
closed rs a b (n ∷ v) d h w k = (n ∷ (v ++ w), subst (λ (s : ℕ). IsWalk rs s (n ∷ (v ++ w)) s) (sym h.1) (walk_join rs a (n ∷ v) b w a h k))

pub connected_cycle : (events : ℕ) (rs : List Rule) (root : ℕ) → 2 ≤ events → IsConnected events rs root → (cycle : List ℕ) × IsCycle rs cycle
connected_cycle events rs root h c = go (cases_eq root 0)
  where
    through : (event : ℕ) → event < events → (root ≡ event → ⊥) → (cycle : List ℕ) × IsCycle rs cycle
    through event l d = closed rs root event (c event l).0.0 d (c event l).0.1 (c event l).1.0 (c event l).1.1

    go : (root ≡ 0) ⊎ (root ≡ 0 → ⊥) → (cycle : List ℕ) × IsCycle rs cycle
    go (inl e) = through 1 (omega arith) (λ (f : root ≡ 1). absurd (omega arith))
    go (inr d) = through 0 (omega arith) d
