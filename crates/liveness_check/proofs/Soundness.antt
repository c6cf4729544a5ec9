-- A system is connected and live, or one of the faults holds of it: both are decided by a search among short walks.
use Rattle.std.proofs.Common.{◌≡◌, ◌≢◌, ℕ, zero, suc, ◌<◌, ◌≤◌, Bool, List, length, ◌⊎◌, inl, inr, subst, arith}
use Rattle.std.proofs.lemmas.Bool.{cases_lt}
use Rattle.rule_system.specs.declared.rules.Rule.{Rule}
use Rattle.rule_system.specs.Walks.{IsWalk, IsCycle, IsKept, IsConnected, IsLive, EndsBelow, Reaches, has_no_offset}
use Rattle.rule_system.specs.FirstCycle.{IsFirstCycle}
use Rattle.rule_system.specs.Weights.{ShortWalkAtLeast}
use Rattle.rule_system.proofs.FirstExists.{IsKeptCycle, ShortBefore, shorten}
use Rattle.rule_system.proofs.Search.{IsAmong, BestOrNone, Tested, search_best, both_tested}
use Rattle.rule_system.proofs.WalkTests.{walk_tested, walk_numbers, cycle_tested, kept_tested}
use Rattle.liveness_check.specs.declared.faults.LiveFault.{LiveFault}
use Rattle.liveness_check.specs.declared.faults.LiveFault.TheVariants.{Unreached, NoReturn, Dead, Memory}
use Rattle.liveness_check.specs.Liveness.{IsFault}

-- whether there is a list that passes, where each list that passes has one among the short lists of small numbers
some_or_none : (m n : ℕ) (P : List ℕ → Type 0) → Tested P → ((w : List ℕ) → P w → (v : List ℕ) × IsAmong m n v × P v) → ((w : List ℕ) × P w) ⊎ ((w : List ℕ) → P w → ⊥)
some_or_none m n P test short = go (search_best m n (λ v w. Unit {0}) P (record { either = λ v w p q. inl tt; through = λ u v w p q r h k. tt }) test)
  where
    go : BestOrNone (λ v w. Unit {0}) (λ w. IsAmong m n w × P w) → ((w : List ℕ) × P w) ⊎ ((w : List ℕ) → P w → ⊥)
    go (inl b) = inl (b.list, b.passes.1)
    go (inr none) = inr (λ w p. let s : (v : List ℕ) × IsAmong m n v × P v = short w p in none s.0 (s.1, s.2))

-- what the laws of walks say of a system
pub record HasWalkLaws (events : ℕ) (rules : List Rule) : Type 0 where
  pub short : (a : ℕ) (walk : List ℕ) (b : ℕ) → a < events → IsWalk rules a walk b → ShortWalkAtLeast 0 0 events rules a walk b
  pub first : (cycle : List ℕ) → IsCycle rules cycle → IsKept (has_no_offset rules) cycle → (first : List ℕ) × IsFirstCycle rules (has_no_offset rules) first
  pub live : ((cycle : List ℕ) → IsCycle rules cycle → IsKept (has_no_offset rules) cycle → ⊥) → IsLive rules

-- whether a walk leads from the one event to the other
reaches_or_not : (events : ℕ) (rs : List Rule) (a b : ℕ) → HasWalkLaws events rs → a < events → Reaches rs a b ⊎ (Reaches rs a b → ⊥)
reaches_or_not events rs a b laws k = go (some_or_none (length rs) events (λ w. IsWalk rs a w b) (λ w. walk_tested rs a w b) short)
  where
    short : (w : List ℕ) → IsWalk rs a w b → (v : List ℕ) × IsAmong (length rs) events v × IsWalk rs a v b
    short w h =
        let s : ShortWalkAtLeast 0 0 events rs a w b = laws.short a w b k h in
        let few : length s.short < events = s.is_short in
        (s.short, (omega arith, walk_numbers rs a s.short b s.is_walk), s.is_walk)

    go : ((w : List ℕ) × IsWalk rs a w b) ⊎ ((w : List ℕ) → IsWalk rs a w b → ⊥) → Reaches rs a b ⊎ (Reaches rs a b → ⊥)
    go (inl r) = inl r
    go (inr none) = inr (λ r. none r.0 r.1)

-- whether there is a cycle of kept rules
kept_cycle_or_none : (events : ℕ) (rs : List Rule) (kept : ℕ → Bool) → EndsBelow events rs → ((w : List ℕ) × IsKeptCycle rs kept w) ⊎ ((w : List ℕ) → IsKeptCycle rs kept w → ⊥)
kept_cycle_or_none events rs kept ends = some_or_none (length rs) events (IsKeptCycle rs kept) (λ w. both_tested (cycle_tested rs w) (kept_tested kept w)) short
  where
    short : (w : List ℕ) → IsKeptCycle rs kept w → (v : List ℕ) × IsAmong (length rs) events v × IsKeptCycle rs kept v
    short w h = let s : ShortBefore rs kept events w = shorten events rs kept ends w h in (s.cycle, s.is_among, s.is_kept)

-- the least number of which a property does not hold
record LeastWithout (P : ℕ → Type 0) (count : ℕ) : Type 0 where
  number : ℕ
  inside : number < count
  without : P number → ⊥
  least : (other : ℕ) → other < number → P other

-- a property that can be tested holds of all numbers below a bound, or there is a least of which it does not
all_or_least : (P : ℕ → Type 0) (count : ℕ) → ((n : ℕ) → n < count → P n ⊎ (P n → ⊥)) → ((n : ℕ) → n < count → P n) ⊎ LeastWithout P count
all_or_least P zero test = inl (λ n h. absurd (omega arith))
all_or_least P (suc count) test = go (all_or_least P count (λ n h. test n (omega arith))) (test count (omega arith))
  where
    go : ((n : ℕ) → n < count → P n) ⊎ LeastWithout P count → P count ⊎ (P count → ⊥) → ((n : ℕ) → n < suc count → P n) ⊎ LeastWithout P (suc count)
    go (inr l) t = inr (record { number = l.number; inside = let h : l.number < count = l.inside in omega arith; without = l.without; least = l.least })
    go (inl all) (inr fails) = inr (record { number = count; inside = omega arith; without = fails; least = all })
    go (inl all) (inl here) = inl (λ n h. pick n h (cases_lt n count))
      where
        pick : (n : ℕ) → n < suc count → (n < count) ⊎ (count ≤ n) → P n
        pick n h (inl l) = all n l
        pick n h (inr l) = let e : count ≡ n = omega arith in subst P e here

abbrev IsSoundOrAtFault : ℕ → List Rule → ℕ → Type 0
IsSoundOrAtFault events rs root = (IsConnected events rs root × IsLive rs) ⊎ ((fault : LiveFault) × IsFault events rs root fault × (fault ≢ Memory))

-- the faults in their order, each where those before it do not hold
pub sound_or_at_fault : (events : ℕ) (rs : List Rule) (root : ℕ) → HasWalkLaws events rs → EndsBelow events rs → root < events → IsSoundOrAtFault events rs root
sound_or_at_fault events rs root laws ends inside = reached (all_or_least (λ n. Reaches rs root n) events (λ n h. reaches_or_not events rs root n laws inside))
  where
    dead : IsConnected events rs root → ((w : List ℕ) × IsKeptCycle rs (has_no_offset rs) w) ⊎ ((w : List ℕ) → IsKeptCycle rs (has_no_offset rs) w → ⊥) → IsSoundOrAtFault events rs root
    dead connected (inl w) = let f : (first : List ℕ) × IsFirstCycle rs (has_no_offset rs) first = laws.first w.0 w.1.0 w.1.1 in inr (Dead f.0, (connected, f.1), λ e. cc)
    dead connected (inr none) = inl (connected, laws.live (λ cycle c k. none cycle (c, k)))

    returned : ((n : ℕ) → n < events → Reaches rs root n) → ((n : ℕ) → n < events → Reaches rs n root) ⊎ LeastWithout (λ n. Reaches rs n root) events → IsSoundOrAtFault events rs root
    returned to (inl back) = dead (λ n h. (to n h, back n h)) (kept_cycle_or_none events rs (has_no_offset rs) ends)
    returned to (inr l) = inr (NoReturn l.number, (to, record { is_event = l.inside; without_return = l.without; least = l.least }), λ e. cc)

    reached : ((n : ℕ) → n < events → Reaches rs root n) ⊎ LeastWithout (λ n. Reaches rs root n) events → IsSoundOrAtFault events rs root
    reached (inl to) = returned to (all_or_least (λ n. Reaches rs n root) events (λ n h. reaches_or_not events rs n root laws h))
    reached (inr l) = inr (Unreached l.number, record { is_event = l.inside; unreached = l.without; least = l.least }, λ e. cc)
