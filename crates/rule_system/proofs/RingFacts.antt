-- The period, the arrivals and the critical cycle of the ring of three inverters.
use Rattle.std.proofs.Common.{◌≡◌, ℕ, zero, suc, ◌*◌, ◌<◌, ◌≤◌, List, [], ◌∷◌, refl, sym, ap, subst, ◌∙◌, arith, lit<, lit≤, ◌≢◌, ◌⊎◌, inl, inr, get_or}
use Rattle.std.proofs.Math.Nat.{one-dvd}
use Rattle.std.proofs.lemmas.Int.{ints}
use Rattle.rule_system.specs.Rules.{rule_at, source_of, target_of, delay_sum, offset_sum}
use Rattle.rule_system.specs.Walks.{IsWalk, IsCycle, IsLive, IsConnected, Reaches}
use Rattle.rule_system.specs.Weights.{weight, time_of, IsFeasible, IsPeriod, AreArrivals, is_tight}
use Rattle.std.proofs.lemmas.Bool.{cases_eq}
use Rattle.rule_system.specs.FirstCycle.{IsCycleBefore, IsFirstCycle}
use Rattle.rule_system.specs.CriticalCycle.{IsCriticalCycle}
use Rattle.rule_system.specs.InverterRing.{inverter_ring, ring_times}
use Rattle.rule_system.proofs.Weights.{cycle_bound}
use Rattle.rule_system.proofs.Arrivals.{certified}

ring_feasible : IsFeasible 66 1 inverter_ring ring_times
ring_feasible zero h = omega (arith, ints)
ring_feasible (suc zero) h = omega (arith, ints)
ring_feasible (suc (suc zero)) h = omega (arith, ints)
ring_feasible (suc (suc (suc zero))) h = omega (arith, ints)
ring_feasible (suc (suc (suc (suc zero)))) h = omega (arith, ints)
ring_feasible (suc (suc (suc (suc (suc zero))))) h = omega (arith, ints)
ring_feasible (suc (suc (suc (suc (suc (suc n)))))) h = absurd (omega arith)

abbrev round_trip : List ℕ
round_trip = 1 ∷ 2 ∷ 5 ∷ 0 ∷ 3 ∷ 4 ∷ []

ring_cycle : IsCycle inverter_ring round_trip
ring_cycle = (lit< tt, refl, (lit< tt, refl, (lit< tt, refl, (lit< tt, refl, (lit< tt, refl, (lit< tt, refl, refl))))))

pub ring_period : IsPeriod inverter_ring 66 1
ring_period = record {
  positive = lit≤ tt;
  lowest = (one-dvd 66, one-dvd 1, λ d p q. q);
  cycle = round_trip;
  is_cycle = ring_cycle;
  attained = refl;
  greatest = cycle_bound 66 1 inverter_ring ring_times ring_feasible;
}

ring_attained : (event : ℕ) → event < 6 → (walk : List ℕ) × IsWalk inverter_ring 0 walk event × (weight 66 1 inverter_ring walk ≡ time_of ring_times event)
ring_attained zero h = ([], refl, refl)
ring_attained (suc zero) h = (1 ∷ 2 ∷ 5 ∷ [], (lit< tt, refl, (lit< tt, refl, (lit< tt, refl, refl))), refl)
ring_attained (suc (suc zero)) h = (1 ∷ 2 ∷ 5 ∷ 0 ∷ [], (lit< tt, refl, (lit< tt, refl, (lit< tt, refl, (lit< tt, refl, refl)))), refl)
ring_attained (suc (suc (suc zero))) h = (1 ∷ [], (lit< tt, refl, refl), refl)
ring_attained (suc (suc (suc (suc zero)))) h = (1 ∷ 2 ∷ [], (lit< tt, refl, (lit< tt, refl, refl)), refl)
ring_attained (suc (suc (suc (suc (suc zero))))) h = (1 ∷ 2 ∷ 5 ∷ 0 ∷ 3 ∷ [], (lit< tt, refl, (lit< tt, refl, (lit< tt, refl, (lit< tt, refl, (lit< tt, refl, refl))))), refl)
ring_attained (suc (suc (suc (suc (suc (suc n)))))) h = absurd (omega arith)

pub ring_arrivals : AreArrivals 66 1 6 inverter_ring 0 ring_times
ring_arrivals = certified 66 1 6 inverter_ring 0 ring_times ring_feasible refl (refl, ring_attained)

-- ---- each cycle passes a delay, so it has an offset

delays : (n : ℕ) → n < 6 → 10 ≤ (rule_at inverter_ring n).delay
delays zero h = lit≤ tt
delays (suc zero) h = lit≤ tt
delays (suc (suc zero)) h = lit≤ tt
delays (suc (suc (suc zero))) h = lit≤ tt
delays (suc (suc (suc (suc zero)))) h = lit≤ tt
delays (suc (suc (suc (suc (suc zero))))) h = lit≤ tt
delays (suc (suc (suc (suc (suc (suc n)))))) h = absurd (omega arith)

pub ring_live : IsLive inverter_ring
ring_live [] h = absurd h
ring_live (n ∷ w) h =
    let long : 10 ≤ (rule_at inverter_ring n).delay = delays n h.0 in
    let bound : 1 * delay_sum inverter_ring (n ∷ w) ≤ 66 * offset_sum inverter_ring (n ∷ w) = cycle_bound 66 1 inverter_ring ring_times ring_feasible (n ∷ w) h in
    omega arith

ring_back : (event : ℕ) → event < 6 → Reaches inverter_ring event 0
ring_back zero h = ([], refl)
ring_back (suc zero) h = (0 ∷ 3 ∷ 4 ∷ [], (lit< tt, refl, (lit< tt, refl, (lit< tt, refl, refl))))
ring_back (suc (suc zero)) h = (3 ∷ 4 ∷ [], (lit< tt, refl, (lit< tt, refl, refl)))
ring_back (suc (suc (suc zero))) h = (2 ∷ 5 ∷ 0 ∷ 3 ∷ 4 ∷ [], (lit< tt, refl, (lit< tt, refl, (lit< tt, refl, (lit< tt, refl, (lit< tt, refl, refl))))))
ring_back (suc (suc (suc (suc zero)))) h = (5 ∷ 0 ∷ 3 ∷ 4 ∷ [], (lit< tt, refl, (lit< tt, refl, (lit< tt, refl, (lit< tt, refl, refl)))))
ring_back (suc (suc (suc (suc (suc zero))))) h = (4 ∷ [], (lit< tt, refl, refl))
ring_back (suc (suc (suc (suc (suc (suc n)))))) h = absurd (omega arith)

pub ring_connected : IsConnected 6 inverter_ring 0
ring_connected event h = (((ring_attained event h).0, (ring_attained event h).1), ring_back event h)

-- ---- one rule leaves each event, so the cycles from A+ are those round the ring

abbrev leaving : ℕ → ℕ
leaving event = get_or (1 ∷ 0 ∷ 3 ∷ 2 ∷ 5 ∷ 4 ∷ []) event 0

leaves : (n : ℕ) → n < 6 → n ≡ leaving (source_of inverter_ring n)
leaves zero h = refl
leaves (suc zero) h = refl
leaves (suc (suc zero)) h = refl
leaves (suc (suc (suc zero))) h = refl
leaves (suc (suc (suc (suc zero)))) h = refl
leaves (suc (suc (suc (suc (suc zero))))) h = refl
leaves (suc (suc (suc (suc (suc (suc n)))))) h = absurd (omega arith)

record Forced (event : ℕ) (walk : List ℕ) : Type 0 where
  rest : List ℕ
  joined : walk ≡ leaving event ∷ rest
  goes_on : IsWalk inverter_ring (target_of inverter_ring (leaving event)) rest 0

forced_rule : (event n : ℕ) (w : List ℕ) → IsWalk inverter_ring event (n ∷ w) 0 → Forced event (n ∷ w)
forced_rule event n w h =
    let e : n ≡ leaving event = leaves n h.0 ∙ ap leaving h.1 in
    record { rest = w; joined = ap (λ (m : ℕ). m ∷ w) e; goes_on = subst (λ (m : ℕ). IsWalk inverter_ring (target_of inverter_ring m) w 0) e h.2 }

forced : (event : ℕ) (w : List ℕ) → event ≢ 0 → IsWalk inverter_ring event w 0 → Forced event w
forced event [] d h = absurd (d h)
forced event (n ∷ w) d h = forced_rule event n w h

once_round : (n : ℕ) (w : List ℕ) → IsWalk inverter_ring 0 (n ∷ w) 0 → (rest : List ℕ) × (n ∷ w ≡ 1 ∷ 2 ∷ 5 ∷ 0 ∷ 3 ∷ 4 ∷ rest)
once_round n w h =
    let a : Forced 0 (n ∷ w) = forced_rule 0 n w h in
    let b : Forced 3 a.rest = forced 3 a.rest (λ e. absurd (omega arith)) a.goes_on in
    let c : Forced 4 b.rest = forced 4 b.rest (λ e. absurd (omega arith)) b.goes_on in
    let d : Forced 1 c.rest = forced 1 c.rest (λ e. absurd (omega arith)) c.goes_on in
    let f : Forced 2 d.rest = forced 2 d.rest (λ e. absurd (omega arith)) d.goes_on in
    let g : Forced 5 f.rest = forced 5 f.rest (λ e. absurd (omega arith)) f.goes_on in
    let p : a.rest ≡ 2 ∷ b.rest = b.joined in
    let q : b.rest ≡ 5 ∷ c.rest = c.joined in
    let r : c.rest ≡ 0 ∷ d.rest = d.joined in
    let s : d.rest ≡ 3 ∷ f.rest = f.joined in
    let t : f.rest ≡ 4 ∷ g.rest = g.joined in
    let u : n ∷ w ≡ 1 ∷ a.rest = a.joined in
    (g.rest, cc)

longer_round : (rest : List ℕ) → IsCycleBefore inverter_ring round_trip (1 ∷ 2 ∷ 5 ∷ 0 ∷ 3 ∷ 4 ∷ rest)
longer_round [] = inr (refl, inr (refl, (inr (refl, inr (refl, inr (refl, inr (refl, inr (refl, inr (refl, tt)))))))))
longer_round (n ∷ rest) = inr (refl, inl (omega arith))

first_round : (other : List ℕ) → IsCycle inverter_ring other → IsCycleBefore inverter_ring round_trip other
first_round [] h = absurd h
first_round (n ∷ w) h = go (cases_eq (source_of inverter_ring n) 0)
  where
    go : (source_of inverter_ring n ≡ 0) ⊎ (source_of inverter_ring n ≢ 0) → IsCycleBefore inverter_ring round_trip (n ∷ w)
    go (inl e) =
        let r : (rest : List ℕ) × (n ∷ w ≡ 1 ∷ 2 ∷ 5 ∷ 0 ∷ 3 ∷ 4 ∷ rest) = once_round n w (subst (λ (s : ℕ). IsWalk inverter_ring s (n ∷ w) s) e h) in
        subst (λ (d : List ℕ). IsCycleBefore inverter_ring round_trip d) (sym r.1) (longer_round r.0)
    go (inr d) = inl (grind arith)

pub ring_critical : IsFirstCycle inverter_ring (is_tight 66 1 inverter_ring ring_times) (1 ∷ 2 ∷ 5 ∷ 0 ∷ 3 ∷ 4 ∷ [])
ring_critical = record {
  is_cycle = ring_cycle;
  is_kept = (refl, (refl, (refl, (refl, (refl, (refl, tt))))));
  first = λ other h k. first_round other h;
}

pub ring_is_critical : IsCriticalCycle 66 1 6 inverter_ring 0 (1 ∷ 2 ∷ 5 ∷ 0 ∷ 3 ∷ 4 ∷ [])
ring_is_critical = record { times = ring_times; are_arrivals = ring_arrivals; first = ring_critical }
