-- Arrivals: one list of them, how they are shown, and how rounds find them.
use Rattle.std.proofs.Common.{◌≡◌, ℕ, ◌+◌, ◌*◌, ◌<◌, ◌≤◌, ℤ, pos, ◌+ℤ◌, ◌≤ℤ◌, List, [], ◌∷◌, ◌++◌, length, refl, sym, ap, ◌∙◌, arith, length-append, ◌<ℤ◌, ◌⊎◌, inl, inr, ◌↔◌}
use Rattle.std.specs.List.{AllByRecursion}
use Rattle.std.specs.Int.{IsGcd}
use Rattle.std.proofs.lemmas.Int.{ints}
use Rattle.rule_system.specs.declared.rules.Rule.{Rule}
use Rattle.rule_system.specs.Rules.{rule_at, source_of, target_of, delay_sum, offset_sum}
use Rattle.rule_system.specs.Walks.{IsWalk, IsCycle, EndsBelow, IsLive}
use Rattle.rule_system.specs.Weights.{weight, rule_weight, IsFeasible, HasNoGain, Gains, Attains, IsPeriod, IsArrival, AreArrivals, AreAttained, IsTight, IsRound, Covers, ShortWalkAtLeast, time_of, GainCycle, AttainedFrom, AreAttainedAnywhere}
use Rattle.rule_system.proofs.Walks.{walk_join}
use Rattle.rule_system.proofs.Weights.{weight-append, walk_bound, cycle_bound}
use Rattle.rule_system.proofs.Ratios.{attained_le, same_ratio, greater_gains}
use Rattle.rule_system.proofs.Erase.{short_walk, erase, PathAtLeast}
use Rattle.rule_system.proofs.Paths.{path_short}

pub same_period : (rs : List Rule) (top bottom top' bottom' : ℕ) → IsLive rs → IsPeriod rs top bottom → IsPeriod rs top' bottom' → (top ≡ top') × (bottom ≡ bottom')
same_period rs top bottom top' bottom' live p q =
    let low : top * bottom' ≤ top' * bottom = attained_le top bottom top' bottom' (delay_sum rs p.cycle) (offset_sum rs p.cycle) (live p.cycle p.is_cycle) p.attained (q.greatest p.cycle p.is_cycle) in
    let high : top' * bottom ≤ top * bottom' = attained_le top' bottom' top bottom (delay_sum rs q.cycle) (offset_sum rs q.cycle) (live q.cycle q.is_cycle) q.attained (p.greatest q.cycle q.is_cycle) in
    same_ratio top bottom top' bottom' p.lowest q.lowest p.positive q.positive (omega arith)

pub greater_ratio : (top bottom top' bottom' : ℕ) (rs : List Rule) (cycle : List ℕ) → IsCycle rs cycle → 1 ≤ offset_sum rs cycle → 1 ≤ bottom' → Attains top' bottom' rs cycle → top * bottom' < top' * bottom → Gains top bottom rs cycle
greater_ratio top bottom top' bottom' rs cycle c some b h k = greater_gains top bottom top' bottom' (delay_sum rs cycle) (offset_sum rs cycle) some b h k

pub same_arrival : (top bottom : ℕ) (rs : List Rule) (root event : ℕ) (x y : ℤ) → IsArrival top bottom rs root event x → IsArrival top bottom rs root event y → x ≡ y
same_arrival top bottom rs root event x y h k =
    let low : weight top bottom rs h.walk ≤ℤ y = k.greatest h.walk h.is_walk in
    let high : weight top bottom rs k.walk ≤ℤ x = h.greatest k.walk k.is_walk in
    let e : weight top bottom rs h.walk ≡ x = h.attained in
    let f : weight top bottom rs k.walk ≡ y = k.attained in
    omega (arith, ints)

-- numbers that rise along each rule by at least its weight, and that walks attain, are the arrivals
pub certified : (top bottom events : ℕ) (rs : List Rule) (root : ℕ) (times : List ℤ) → IsFeasible top bottom rs times → time_of times root ≡ pos 0 → AreAttained top bottom events rs root times → AreArrivals top bottom events rs root times
certified top bottom events rs root times f z h = (h.0, λ event k. one event (h.1 event k))
  where
    below : (event : ℕ) (walk : List ℕ) → IsWalk rs root walk event → weight top bottom rs walk ≤ℤ time_of times event
    below event walk w =
        let all : (time_of times root +ℤ weight top bottom rs walk) ≤ℤ time_of times event = walk_bound top bottom rs times f root walk event w in
        omega (arith, ints)

    one : (event : ℕ) → (walk : List ℕ) × IsWalk rs root walk event × (weight top bottom rs walk ≡ time_of times event) → IsArrival top bottom rs root event (time_of times event)
    one event w = record { walk = w.0; is_walk = w.1; attained = w.2; greatest = below event }

pub push_weight : (top bottom : ℕ) (rs : List Rule) (w : List ℕ) (n : ℕ) → weight top bottom rs (w ++ n ∷ []) ≡ weight top bottom rs w +ℤ rule_weight top bottom (rule_at rs n)
push_weight top bottom rs w n =
    let e : weight top bottom rs (w ++ n ∷ []) ≡ weight top bottom rs w +ℤ weight top bottom rs (n ∷ []) = weight-append top bottom rs w (n ∷ []) in
    omega (arith, ints)

-- along each rule arrivals rise by at least its weight
pub arrivals_feasible : (top bottom events : ℕ) (rs : List Rule) (root : ℕ) (times : List ℤ) → EndsBelow events rs → AreArrivals top bottom events rs root times → IsFeasible top bottom rs times
arrivals_feasible top bottom events rs root times ends h n k =
    let ahead : IsArrival top bottom rs root (source_of rs n) (time_of times (source_of rs n)) = h.1 (source_of rs n) (ends n k).0 in
    let there : IsArrival top bottom rs root (target_of rs n) (time_of times (target_of rs n)) = h.1 (target_of rs n) (ends n k).1 in
    let longer : weight top bottom rs (ahead.walk ++ n ∷ []) ≤ℤ time_of times (target_of rs n) = there.greatest (ahead.walk ++ n ∷ []) (walk_join rs root ahead.walk (source_of rs n) (n ∷ []) (target_of rs n) ahead.is_walk (k, refl, refl)) in
    let e : weight top bottom rs ahead.walk ≡ time_of times (source_of rs n) = ahead.attained in
    let p : weight top bottom rs (ahead.walk ++ n ∷ []) ≡ weight top bottom rs ahead.walk +ℤ rule_weight top bottom (rule_at rs n) = push_weight top bottom rs ahead.walk n in
    omega (arith, ints)

-- ---- a cycle of the greatest ratio is tight

pub walk_slack : (top bottom : ℕ) (rs : List Rule) (times : List ℤ) → IsFeasible top bottom rs times → (a : ℕ) (w : List ℕ) (b : ℕ) → IsWalk rs a w b → time_of times b ≤ℤ (time_of times a +ℤ weight top bottom rs w) → AllByRecursion (IsTight top bottom rs times) w
walk_slack top bottom rs times f a [] b h k = tt
walk_slack top bottom rs times f a (n ∷ w) b h k =
    let here : (time_of times (source_of rs n) +ℤ rule_weight top bottom (rule_at rs n)) ≤ℤ time_of times (target_of rs n) = f n h.0 in
    let rest : (time_of times (target_of rs n) +ℤ weight top bottom rs w) ≤ℤ time_of times b = walk_bound top bottom rs times f (target_of rs n) w b h.2 in
    let from : time_of times (source_of rs n) ≡ time_of times a = ap (time_of times) h.1 in
    (omega (arith, ints), walk_slack top bottom rs times f (target_of rs n) w b h.2 (omega (arith, ints)))

pub attaining_tight : (top bottom : ℕ) (rs : List Rule) (times : List ℤ) → IsFeasible top bottom rs times → (cycle : List ℕ) → IsCycle rs cycle → Attains top bottom rs cycle → AllByRecursion (IsTight top bottom rs times) cycle
attaining_tight top bottom rs times f [] h k = absurd h
attaining_tight top bottom rs times f (n ∷ w) h k = walk_slack top bottom rs times f (source_of rs n) (n ∷ w) (source_of rs n) h (omega (arith, ints))

-- ---- rounds

record PartedLast (rs : List Rule) (a : ℕ) (walk : List ℕ) (b : ℕ) : Type 0 where
  front : List ℕ
  last : ℕ
  joined : walk ≡ front ++ last ∷ []
  to_last : IsWalk rs a front (source_of rs last)
  is_rule : last < length rs
  ends : target_of rs last ≡ b

-- a walk of at least one rule, parted before its last
part_last : (rs : List Rule) (a n : ℕ) (walk : List ℕ) (b : ℕ) → IsWalk rs a (n ∷ walk) b → PartedLast rs a (n ∷ walk) b
part_last rs a n [] b h = record { front = []; last = n; joined = refl; to_last = sym h.1; is_rule = h.0; ends = h.2 }
part_last rs a n (m ∷ walk) b h =
    let p : PartedLast rs (target_of rs n) (m ∷ walk) b = part_last rs (target_of rs n) m walk b h.2 in
    record { front = n ∷ p.front; last = p.last; joined = ap (λ (w : List ℕ). n ∷ w) p.joined; to_last = (h.0, h.1, p.to_last); is_rule = p.is_rule; ends = p.ends }

-- after a round the numbers bound walks of one rule more
pub round_covers : (top bottom : ℕ) (rs : List Rule) (root count : ℕ) (before after : List ℤ) → Covers top bottom rs root count before → IsRound top bottom rs before after → Covers top bottom rs root (count + 1) after
round_covers top bottom rs root count before after c r [] event h k =
    let old : weight top bottom rs [] ≤ℤ time_of before event = c [] event h (omega arith) in
    let kept : time_of before event ≤ℤ time_of after event = r.0 event in
    omega (arith, ints)
round_covers top bottom rs root count before after c r (n ∷ walk) event h k =
    let p : PartedLast rs root (n ∷ walk) event = part_last rs root n walk event h in
    let fewer : length (n ∷ walk) ≡ length p.front + 1 = ap length p.joined ∙ length-append p.front (p.last ∷ []) in
    let old : weight top bottom rs p.front ≤ℤ time_of before (source_of rs p.last) = c p.front (source_of rs p.last) p.to_last (omega arith) in
    let step : (time_of before (source_of rs p.last) +ℤ rule_weight top bottom (rule_at rs p.last)) ≤ℤ time_of after (target_of rs p.last) = r.1 p.last p.is_rule in
    let e : weight top bottom rs (n ∷ walk) ≡ weight top bottom rs p.front +ℤ rule_weight top bottom (rule_at rs p.last) = ap (weight top bottom rs) p.joined ∙ push_weight top bottom rs p.front p.last in
    let there : time_of after (target_of rs p.last) ≡ time_of after event = ap (time_of after) p.ends in
    omega (arith, ints)

-- walks of fewer rules than events bound all walks
pub covers_all : (top bottom events : ℕ) (rs : List Rule) (root count : ℕ) (times : List ℤ) → EndsBelow events rs → HasNoGain top bottom rs → root < events → events ≤ count + 1 → Covers top bottom rs root count times → (any : ℕ) → Covers top bottom rs root any times
covers_all top bottom events rs root count times ends h k enough c any walk event w _ =
    let s : ShortWalkAtLeast top bottom events rs root walk event = short_walk top bottom events rs ends h root walk event k w in
    let e : weight top bottom rs walk ≤ℤ weight top bottom rs s.short = s.at_least in
    let low : weight top bottom rs s.short ≤ℤ time_of times event = c s.short event s.is_walk (let n : length s.short < events = s.is_short in omega arith) in
    omega (arith, ints)

-- numbers that bound all short walks and that walks attain are settled, unless some cycle gains
pub unsettled_gain : (top bottom events : ℕ) (rs : List Rule) (count n : ℕ) (times : List ℤ) → EndsBelow events rs → events ≤ count + 1 → ((root : ℕ) → Covers top bottom rs root count times) → AreAttainedAnywhere top bottom events rs times → n < length rs → time_of times (target_of rs n) <ℤ (time_of times (source_of rs n) +ℤ rule_weight top bottom (rule_at rs n)) → GainCycle top bottom rs
unsettled_gain top bottom events rs count n times ends enough c h k raises = go (erase top bottom rs there.root longer (target_of rs n) joined)
  where
    there : AttainedFrom top bottom events rs (source_of rs n) (time_of times (source_of rs n))
    there = h (source_of rs n) (ends n k).0

    longer : List ℕ
    longer = there.walk ++ n ∷ []

    joined : IsWalk rs there.root (there.walk ++ n ∷ []) (target_of rs n)
    joined = walk_join rs there.root there.walk (source_of rs n) (n ∷ []) (target_of rs n) there.is_walk (k, refl, refl)

    no_path : PathAtLeast top bottom rs there.root (there.walk ++ n ∷ []) (target_of rs n) → ⊥
    no_path p =
        let short : length p.path < events = path_short rs events ends there.root p.path (target_of rs n) there.below p.is_path in
        let bound : weight top bottom rs p.path ≤ℤ time_of times (target_of rs n) = c there.root p.path (target_of rs n) p.is_path.0 (omega arith) in
        let more : weight top bottom rs (there.walk ++ n ∷ []) ≤ℤ weight top bottom rs p.path = p.at_least in
        let e : weight top bottom rs (there.walk ++ n ∷ []) ≡ weight top bottom rs there.walk +ℤ rule_weight top bottom (rule_at rs n) = push_weight top bottom rs there.walk n in
        let f : weight top bottom rs there.walk ≡ time_of times (source_of rs n) = there.attained in
        omega (arith, ints)

    go : PathAtLeast top bottom rs there.root (there.walk ++ n ∷ []) (target_of rs n) ⊎ GainCycle top bottom rs → GainCycle top bottom rs
    go (inl p) = absurd (no_path p)
    go (inr g) = g

-- ---- before the first round and after the last

pub begin : (top bottom : ℕ) (rs : List Rule) (root : ℕ) (times : List ℤ) → pos 0 ≤ℤ time_of times root → Covers top bottom rs root 0 times
begin top bottom rs root times h [] event w l = let e : time_of times root ≡ time_of times event = ap (time_of times) w in omega (arith, ints)
begin top bottom rs root times h (n ∷ v) event w l = absurd (omega arith)

pub bounds_arrive : (top bottom events : ℕ) (rs : List Rule) (root : ℕ) (times : List ℤ) → AreAttained top bottom events rs root times → ((any : ℕ) → Covers top bottom rs root any times) → AreArrivals top bottom events rs root times
bounds_arrive top bottom events rs root times h c = (h.0, λ event k. one event (h.1 event k))
  where
    one : (event : ℕ) → (walk : List ℕ) × IsWalk rs root walk event × (weight top bottom rs walk ≡ time_of times event) → IsArrival top bottom rs root event (time_of times event)
    one event w = record { walk = w.0; is_walk = w.1; attained = w.2; greatest = λ walk k. c (length walk) walk event k (omega arith) }

-- ---- ratios by weights and by certificates

pub gain_weighs : (top bottom : ℕ) (rs : List Rule) (walk : List ℕ) → Gains top bottom rs walk ↔ (pos 0 <ℤ weight top bottom rs walk)
gain_weighs top bottom rs walk = (λ (h : top * offset_sum rs walk < bottom * delay_sum rs walk). omega (arith, ints), λ (h : pos 0 <ℤ weight top bottom rs walk). omega (arith, ints))

pub attained_weighs : (top bottom : ℕ) (rs : List Rule) (walk : List ℕ) → Attains top bottom rs walk ↔ (weight top bottom rs walk ≡ pos 0)
attained_weighs top bottom rs walk = (λ (h : bottom * delay_sum rs walk ≡ top * offset_sum rs walk). omega (arith, ints), λ (h : weight top bottom rs walk ≡ pos 0). omega (arith, ints))

pub certified_period : (top bottom : ℕ) (rs : List Rule) (times : List ℤ) (cycle : List ℕ) → 1 ≤ bottom → IsGcd top bottom 1 → IsCycle rs cycle → Attains top bottom rs cycle → IsFeasible top bottom rs times → IsPeriod rs top bottom
certified_period top bottom rs times cycle p g c a f = record { positive = p; lowest = g; cycle = cycle; is_cycle = c; attained = a; greatest = cycle_bound top bottom rs times f }
