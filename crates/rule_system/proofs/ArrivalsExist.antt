-- Arrivals exist, they are reached by tight walks, and so the critical cycle exists.
use Rattle.std.proofs.Common.{◌≡◌, ℕ, zero, suc, ◌+◌, ◌<◌, ℤ, pos, ◌+ℤ◌, ◌≤ℤ◌, ◌<ℤ◌, List, [], ◌∷◌, length, refl, sym, ap, subst, ◌∙◌, arith, inl, inr}
use Rattle.std.specs.List.{AllByRecursion}
use Rattle.std.specs.Cmp.{signed_Decides}
use Rattle.std.proofs.lemmas.Int.{ints, by_lt_z}
use Rattle.rule_system.specs.declared.rules.Rule.{Rule}
use Rattle.rule_system.specs.Rules.{rule_at, source_of, target_of}
use Rattle.rule_system.specs.Walks.{IsWalk, IsKept, IsConnected, Reaches, EndsBelow}
use Rattle.rule_system.specs.Weights.{weight, rule_weight, time_of, HasNoGain, Attains, IsPeriod, IsArrival, AreArrivals, IsTight, is_tight, ShortWalkAtLeast, TightWalk}
use Rattle.rule_system.specs.FirstCycle.{IsFirstCycle}
use Rattle.rule_system.specs.CriticalCycle.{IsCriticalCycle}
use Rattle.rule_system.proofs.Weights.{walk_bound, tested_attains}
use Rattle.rule_system.proofs.Erase.{short_walk}
use Rattle.rule_system.proofs.Arrivals.{arrivals_feasible, walk_slack, attaining_tight, same_arrival}
use Rattle.rule_system.proofs.Firsts.{same_first}
use Rattle.rule_system.proofs.Search.{IsAmong, IsOrder, BestOrNone, search_best}
use Rattle.rule_system.proofs.WalkTests.{walk_tested, walk_numbers}
use Rattle.rule_system.proofs.FirstExists.{first_exists}

-- ---- an arrival exists, since short walks weigh most

pub arrival_exists : (top bottom events : ℕ) (rs : List Rule) (root event : ℕ) → EndsBelow events rs → HasNoGain top bottom rs → root < events → Reaches rs root event → (time : ℤ) × IsArrival top bottom rs root event time
arrival_exists top bottom events rs root event ends h k reached = go (search_best (length rs) events (λ v w. weight top bottom rs v ≤ℤ weight top bottom rs w) (λ w. IsWalk rs root w event) order (λ w. walk_tested rs root w event))
  where
    order : IsOrder (λ v w. weight top bottom rs v ≤ℤ weight top bottom rs w) (λ w. IsWalk rs root w event)
    order = record {
      either = λ v w p q. by_lt_z (weight top bottom rs v) (weight top bottom rs w) (λ (l : weight top bottom rs v <ℤ weight top bottom rs w). inl (omega (arith, ints))) (λ (l : weight top bottom rs w ≤ℤ weight top bottom rs v). inr l);
      through = λ u v w p q r (l : weight top bottom rs u ≤ℤ weight top bottom rs v) (m : weight top bottom rs v ≤ℤ weight top bottom rs w). omega (arith, ints);
    }

    short : (w : List ℕ) → IsWalk rs root w event → ShortWalkAtLeast top bottom events rs root w event
    short w p = short_walk top bottom events rs ends h root w event k p

    among : (w : List ℕ) → (p : IsWalk rs root w event) → IsAmong (length rs) events (short w p).short
    among w p = (let l : length (short w p).short < events = (short w p).is_short in omega arith, walk_numbers rs root (short w p).short event (short w p).is_walk)

    go : BestOrNone (λ v w. weight top bottom rs v ≤ℤ weight top bottom rs w) (λ w. IsAmong (length rs) events w × IsWalk rs root w event) → (time : ℤ) × IsArrival top bottom rs root event time
    go (inr none) = absurd (none (short reached.0 reached.1).short (among reached.0 reached.1, (short reached.0 reached.1).is_walk))
    go (inl b) = (weight top bottom rs b.list, record { walk = b.list; is_walk = b.passes.1; attained = refl; greatest = all })
      where
        all : (w : List ℕ) → IsWalk rs root w event → weight top bottom rs w ≤ℤ weight top bottom rs b.list
        all w p =
            let l : weight top bottom rs w ≤ℤ weight top bottom rs (short w p).short = (short w p).at_least in
            let m : weight top bottom rs (short w p).short ≤ℤ weight top bottom rs b.list = b.best (short w p).short (among w p, (short w p).is_walk) in
            omega (arith, ints)

-- numbers that exist one by one are a list
listed : (P : ℕ → ℤ → Type 0) (count from : ℕ) → ((i : ℕ) → i < count → (t : ℤ) × P (from + i) t) → (times : List ℤ) × (length times ≡ count) × ((i : ℕ) → i < count → P (from + i) (time_of times i))
listed P zero from each = ([], refl, λ i h. absurd (omega arith))
listed P (suc count) from each = go (each 0 (omega arith)) (listed P count (suc from) (λ i h. (let here : (t : ℤ) × P (from + suc i) t = each (suc i) (omega arith) in (here.0, subst (λ (n : ℕ). P n here.0) (omega arith) here.1))))
  where
    go : (t : ℤ) × P (from + 0) t → (times : List ℤ) × (length times ≡ count) × ((i : ℕ) → i < count → P (suc from + i) (time_of times i)) → (times : List ℤ) × (length times ≡ suc count) × ((i : ℕ) → i < suc count → P (from + i) (time_of times i))
    go first rest = (first.0 ∷ rest.0, ap (λ (n : ℕ). suc n) rest.1, each_one)
      where
        each_one : (i : ℕ) → i < suc count → P (from + i) (time_of (first.0 ∷ rest.0) i)
        each_one zero h = first.1
        each_one (suc i) h = subst (λ (n : ℕ). P n (time_of rest.0 i)) (omega arith) (rest.2 i (omega arith))

pub arrivals_exist : (top bottom events : ℕ) (rs : List Rule) (root : ℕ) → EndsBelow events rs → HasNoGain top bottom rs → root < events → IsConnected events rs root → (times : List ℤ) × AreArrivals top bottom events rs root times
arrivals_exist top bottom events rs root ends h k c = go (listed (IsArrival top bottom rs root) events 0 one)
  where
    one : (i : ℕ) → i < events → (t : ℤ) × IsArrival top bottom rs root (0 + i) t
    one i l = subst (λ (n : ℕ). (t : ℤ) × IsArrival top bottom rs root n t) (omega arith) (arrival_exists top bottom events rs root i ends h k (c i l).0)

    go : (times : List ℤ) × (length times ≡ events) × ((i : ℕ) → i < events → IsArrival top bottom rs root (0 + i) (time_of times i)) → (times : List ℤ) × AreArrivals top bottom events rs root times
    go t = (t.0, (t.1, λ i l. subst (λ (n : ℕ). IsArrival top bottom rs root n (time_of t.0 i)) (omega arith) (t.2 i l)))

-- ---- arrivals are reached by tight walks

pub root_at_zero : (top bottom events : ℕ) (rs : List Rule) (root : ℕ) (times : List ℤ) → EndsBelow events rs → root < events → AreArrivals top bottom events rs root times → time_of times root ≡ pos 0
root_at_zero top bottom events rs root times ends k h =
    let it : IsArrival top bottom rs root root (time_of times root) = h.1 root k in
    let stays : weight top bottom rs [] ≤ℤ time_of times root = it.greatest [] refl in
    let round : (time_of times root +ℤ weight top bottom rs it.walk) ≤ℤ time_of times root = walk_bound top bottom rs times (arrivals_feasible top bottom events rs root times ends h) root it.walk root it.is_walk in
    let e : weight top bottom rs it.walk ≡ time_of times root = it.attained in
    omega (arith, ints)

pub passes_test : (top bottom : ℕ) (rs : List Rule) (times : List ℤ) (walk : List ℕ) → AllByRecursion (IsTight top bottom rs times) walk → IsKept (is_tight top bottom rs times) walk
passes_test top bottom rs times [] h = tt
passes_test top bottom rs times (n ∷ w) h = ((signed_Decides (time_of times (source_of rs n) +ℤ rule_weight top bottom (rule_at rs n)) (time_of times (target_of rs n))).1 h.0, passes_test top bottom rs times w h.1)

pub tight_walk : (top bottom events : ℕ) (rs : List Rule) (root : ℕ) (times : List ℤ) → EndsBelow events rs → root < events → AreArrivals top bottom events rs root times → (event : ℕ) → event < events → TightWalk top bottom rs root times event
tight_walk top bottom events rs root times ends k h event l = record { walk = it.walk; is_walk = it.is_walk; are_tight = passes_test top bottom rs times it.walk tight }
  where
    it : IsArrival top bottom rs root event (time_of times event)
    it = h.1 event l

    tight : AllByRecursion (IsTight top bottom rs times) it.walk
    tight =
        let z : time_of times root ≡ pos 0 = root_at_zero top bottom events rs root times ends k h in
        let e : weight top bottom rs it.walk ≡ time_of times event = it.attained in
        walk_slack top bottom rs times (arrivals_feasible top bottom events rs root times ends h) root it.walk event it.is_walk (omega (arith, ints))

-- ---- the critical cycle

pub critical_exists : (top bottom events : ℕ) (rs : List Rule) (root : ℕ) (times : List ℤ) → EndsBelow events rs → IsPeriod rs top bottom → AreArrivals top bottom events rs root times → (cycle : List ℕ) × IsFirstCycle rs (is_tight top bottom rs times) cycle
critical_exists top bottom events rs root times ends p h =
    first_exists events rs (is_tight top bottom rs times) ends p.cycle p.is_cycle
    (passes_test top bottom rs times p.cycle (attaining_tight top bottom rs times (arrivals_feasible top bottom events rs root times ends h) p.cycle p.is_cycle p.attained))

pub critical_cycle_exists : (top bottom events : ℕ) (rs : List Rule) (root : ℕ) → EndsBelow events rs → root < events → IsConnected events rs root → IsPeriod rs top bottom → (cycle : List ℕ) × IsCriticalCycle top bottom events rs root cycle
critical_cycle_exists top bottom events rs root ends k c p = go (arrivals_exist top bottom events rs root ends p.greatest k c)
  where
    go : (times : List ℤ) × AreArrivals top bottom events rs root times → (cycle : List ℕ) × IsCriticalCycle top bottom events rs root cycle
    go t =
        let f : (cycle : List ℕ) × IsFirstCycle rs (is_tight top bottom rs t.0) cycle = critical_exists top bottom events rs root t.0 ends p t.1 in
        (f.0, record { times = t.0; are_arrivals = t.1; first = f.1 })

pub critical_attains : (top bottom events : ℕ) (rs : List Rule) (root : ℕ) (cycle : List ℕ) → IsCriticalCycle top bottom events rs root cycle → Attains top bottom rs cycle
critical_attains top bottom events rs root cycle h = tested_attains top bottom rs h.times cycle h.first.is_cycle h.first.is_kept

-- ---- there is one list of arrivals, and one critical cycle

same_times : (xs ys : List ℤ) → length xs ≡ length ys → ((i : ℕ) → i < length xs → time_of xs i ≡ time_of ys i) → xs ≡ ys
same_times [] [] e h = refl
same_times [] (y ∷ ys) e h = absurd (omega arith)
same_times (x ∷ xs) [] e h = absurd (omega arith)
same_times (x ∷ xs) (y ∷ ys) e h =
    let first : x ≡ y = h 0 (omega arith) in
    let rest : xs ≡ ys = same_times xs ys (omega arith) (λ i l. h (suc i) (omega arith)) in
    cc

pub same_arrivals : (top bottom events : ℕ) (rs : List Rule) (root : ℕ) (xs ys : List ℤ) → AreArrivals top bottom events rs root xs → AreArrivals top bottom events rs root ys → xs ≡ ys
same_arrivals top bottom events rs root xs ys h k = same_times xs ys (h.0 ∙ sym k.0) (λ i l. same_arrival top bottom rs root i (time_of xs i) (time_of ys i) (h.1 i (let e : length xs ≡ events = h.0 in omega arith)) (k.1 i (let e : length xs ≡ events = h.0 in omega arith)))

pub same_critical : (top bottom events : ℕ) (rs : List Rule) (root : ℕ) (c d : List ℕ) → IsCriticalCycle top bottom events rs root c → IsCriticalCycle top bottom events rs root d → c ≡ d
same_critical top bottom events rs root c d h k =
    same_first rs (is_tight top bottom rs k.times) c d
    (subst (λ (t : List ℤ). IsFirstCycle rs (is_tight top bottom rs t) c) (same_arrivals top bottom events rs root h.times k.times h.are_arrivals k.are_arrivals) h.first)
    k.first
