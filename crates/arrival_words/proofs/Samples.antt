-- The system of one net at its period.
use Rattle.std.proofs.Common.{◌≡◌, ℕ, zero, suc, ◌*◌, ◌<◌, ◌≤◌, ℤ, pos, List, [], ◌∷◌, refl, sym, subst, arith, lit<}
use Rattle.std.proofs.lemmas.Int.{ints}
use Rattle.rule_system.specs.declared.rules.Rule.{Rule}
use Rattle.rule_system.specs.Bounds.{EventRules}
use Rattle.rule_system.specs.Walks.{IsWalk}
use Rattle.rule_system.specs.Weights.{weight, time_of, IsFeasible, HasNoGain, AreAttained, AreArrivals}
use Rattle.rule_system.proofs.Weights.{cycle_bound}
use Rattle.arrival_words.specs.Samples.{one_net, one_net_start}

feasible : IsFeasible 12 1 one_net (pos 0 ∷ pos 5 ∷ [])
feasible zero h = omega (arith, ints)
feasible (suc zero) h = omega (arith, ints)
feasible (suc (suc zero)) h = omega (arith, ints)
feasible (suc (suc (suc zero))) h = omega (arith, ints)
feasible (suc (suc (suc (suc n)))) h = absurd (omega arith)

pub no_gain : HasNoGain 12 1 one_net
no_gain = cycle_bound 12 1 one_net (pos 0 ∷ pos 5 ∷ []) feasible

attained : (event : ℕ) → event < 2 → (walk : List ℕ) × IsWalk one_net 0 walk event × (weight 12 1 one_net walk ≡ time_of one_net_start event)
attained zero h = ([], refl, refl)
attained (suc zero) h = (2 ∷ 3 ∷ [], (lit< tt, refl, (lit< tt, refl, refl)), refl)
attained (suc (suc n)) h = absurd (omega arith)

pub starts : AreAttained 12 1 2 one_net 0 one_net_start
starts = (refl, attained)

-- a ratio whose bottom is 1
whole : (top bottom limit : ℕ) → top * 1 ≡ limit * bottom → bottom ≤ 1 → 1 ≤ bottom → (bottom ≡ 1) × (top ≡ limit)
whole top bottom limit equal most least = let one : bottom ≡ 1 = omega arith in let e : top * 1 ≡ limit * 1 = subst (λ (b : ℕ). top * 1 ≡ limit * b) one equal in (one, omega arith)

pub attained_at : (top bottom limit events : ℕ) (rules : List Rule) (times : List ℤ) (s : EventRules) → s ≡ record { events = events; rules = rules }
    → top * 1 ≡ limit * bottom → bottom ≤ 1 → 1 ≤ bottom → AreAttained limit 1 events rules 0 times → AreAttained top bottom s.events s.rules 0 times
attained_at top bottom limit events rules times s is equal most least h =
    let w = whole top bottom limit equal most least in
    subst (λ (x : EventRules). AreAttained top bottom x.events x.rules 0 times) (sym is)
    (subst (λ (b : ℕ). AreAttained top b events rules 0 times) (sym w.0) (subst (λ (t : ℕ). AreAttained t 1 events rules 0 times) (sym w.1) h))

pub arrivals_attained : (top bottom events : ℕ) (rules : List Rule) (root : ℕ) (times : List ℤ) → AreArrivals top bottom events rules root times → AreAttained top bottom events rules root times
arrivals_attained top bottom events rules root times h = (h.0, λ event near. let a = h.1 event near in (a.walk, a.is_walk, a.attained))
