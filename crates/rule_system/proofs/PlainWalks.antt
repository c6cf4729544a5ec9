-- The walks that the plain programs try.
use Rattle.std.proofs.Common.{◌≡◌, ℕ, ◌+◌, ◌-◌, ◌<◌, ◌≤◌, Bool, List, [], ◌∷◌, length, refl, sym, subst, ◌∙◌, arith, ◌⊎◌, inl, inr}
use Rattle.std.proofs.lemmas.Bool.{cases_lt, cases_order}
use Rattle.rule_system.specs.declared.rules.Rule.{Rule}
use Rattle.rule_system.specs.Walks.{IsWalk, IsCycle, IsKept, EndsBelow}
use Rattle.rule_system.specs.FirstCycle.{IsCycleBefore, IsFirstCycle, start_of}
use Rattle.rule_system.specs.Plain.{IsKeptWalk, IsFirstWalk, NoWalkBelow, IsFirstFrom, NoneFrom}
use Rattle.rule_system.proofs.FirstExists.{ShortBefore, shorten}

-- where no rule starts such a walk, there is none
pub none_starts : (rs : List Rule) (kept : ℕ → Bool) (count a b all : ℕ) → NoWalkBelow rs kept count a b all → length rs ≤ all → (count ≡ 0 → ⊥) → (walk : List ℕ) → IsKeptWalk rs kept count a walk b → ⊥
none_starts rs kept count a b all none k d [] h = d (sym h.counts)
none_starts rs kept count a b all none k d (n ∷ w) h = none n w (let i : n < length rs = h.is_walk.0 in omega arith) h

-- a cycle, as a walk from its start back to it
pub cycle_walk : (rs : List Rule) (kept : ℕ → Bool) (start : ℕ) (cycle : List ℕ) → IsCycle rs cycle → IsKept kept cycle → start_of rs cycle ≡ start → IsKeptWalk rs kept (length cycle) start cycle start
cycle_walk rs kept start [] c k s = absurd c
cycle_walk rs kept start (n ∷ w) c k s = record { is_walk = subst (λ (e : ℕ). IsWalk rs e (n ∷ w) e) s c; is_kept = k; counts = refl }

-- the cycle has at least one rule
some_rules : (rs : List Rule) (cycle : List ℕ) → IsCycle rs cycle → 1 ≤ length cycle
some_rules rs [] c = absurd c
some_rules rs (n ∷ w) c = omega arith

abbrev pub NoneShorter : List Rule → (ℕ → Bool) → ℕ → ℕ → Type 0
NoneShorter rs kept start fewer = (count : ℕ) (walk : List ℕ) → count < fewer → IsKeptWalk rs kept (count + 1) start walk start → ⊥

-- the first of the shortest walks back is the first cycle from there
pub first_back : (rs : List Rule) (kept : ℕ → Bool) (start fewer : ℕ) (cycle : List ℕ) → NoneShorter rs kept start fewer → IsFirstWalk rs kept (fewer + 1) start cycle start → IsFirstFrom rs kept start cycle
first_back rs kept start fewer [] none h = let e : 0 ≡ fewer + 1 = h.is_walk.counts in absurd (omega arith)
first_back rs kept start fewer (n ∷ w) none h = record {
  is_cycle = subst (λ (e : ℕ). IsWalk rs e (n ∷ w) e) (sym h.is_walk.is_walk.1) h.is_walk.is_walk;
  is_kept = h.is_walk.is_kept;
  starts = h.is_walk.is_walk.1;
  first = λ other c k s. go other c (cycle_walk rs kept start other c k s) (h.is_walk.is_walk.1 ∙ sym s) (cases_order (length other) (fewer + 1));
}
  where
    here : length (n ∷ w) ≡ fewer + 1
    here = h.is_walk.counts

    go : (other : List ℕ) → IsCycle rs other → IsKeptWalk rs kept (length other) start other start → start_of rs (n ∷ w) ≡ start_of rs other → (length other ≡ fewer + 1) ⊎ ((length other < fewer + 1) ⊎ (fewer + 1 < length other)) → IsCycleBefore rs (n ∷ w) other
    go other c k s (inl e) = inr (s, inr (here ∙ sym e, h.first other (record { is_walk = k.is_walk; is_kept = k.is_kept; counts = e })))
    go other c k s (inr (inl l)) =
        let m : 1 ≤ length other = some_rules rs other c in
        absurd (none (length other - 1) other (omega arith) (record { is_walk = k.is_walk; is_kept = k.is_kept; counts = omega arith }))
    go other c k s (inr (inr l)) = inr (s, inl (let e : length (n ∷ w) ≡ fewer + 1 = here in omega arith))

-- where no short walk leads back, no cycle starts there
pub none_back : (events : ℕ) (rs : List Rule) (kept : ℕ → Bool) (start fewer : ℕ) → EndsBelow events rs → events ≤ fewer → NoneShorter rs kept start fewer → NoneFrom rs kept start
none_back events rs kept start fewer ends enough none cycle c k s =
    let short : ShortBefore rs kept events cycle = shorten events rs kept ends cycle (c, k) in
    let back : IsKeptWalk rs kept (length short.cycle) start short.cycle start = cycle_walk rs kept start short.cycle short.is_kept.0 short.is_kept.1 (short.starts ∙ s) in
    let m : 1 ≤ length short.cycle = some_rules rs short.cycle short.is_kept.0 in
    let l : length short.cycle ≤ events = short.is_among.0 in
    none (length short.cycle - 1) short.cycle (omega arith) (record { is_walk = back.is_walk; is_kept = back.is_kept; counts = omega arith })

abbrev pub NoneBefore : List Rule → (ℕ → Bool) → ℕ → Type 0
NoneBefore rs kept start = (earlier : ℕ) → earlier < start → NoneFrom rs kept earlier

-- the first cycle from the least start is the first of all
pub first_of_all : (rs : List Rule) (kept : ℕ → Bool) (start : ℕ) (cycle : List ℕ) → NoneBefore rs kept start → IsFirstFrom rs kept start cycle → IsFirstCycle rs kept cycle
first_of_all rs kept start cycle none h = record { is_cycle = h.is_cycle; is_kept = h.is_kept; first = λ other c k. go other c k (cases_order (start_of rs other) start) }
  where
    here : start_of rs cycle ≡ start
    here = h.starts

    go : (other : List ℕ) → IsCycle rs other → IsKept kept other → (start_of rs other ≡ start) ⊎ ((start_of rs other < start) ⊎ (start < start_of rs other)) → IsCycleBefore rs cycle other
    go other c k (inl e) = h.first other c k e
    go other c k (inr (inl l)) = absurd (none (start_of rs other) l other c k refl)
    go other c k (inr (inr l)) = inl (let e : start_of rs cycle ≡ start = here in omega arith)

start_below : (events : ℕ) (rs : List Rule) → EndsBelow events rs → (cycle : List ℕ) → IsCycle rs cycle → start_of rs cycle < events
start_below events rs ends [] c = absurd c
start_below events rs ends (n ∷ w) c = (ends n c.0).0

pub none_at_all : (events : ℕ) (rs : List Rule) (kept : ℕ → Bool) (start : ℕ) → EndsBelow events rs → events ≤ start → NoneBefore rs kept start → (cycle : List ℕ) → IsCycle rs cycle → IsKept kept cycle → ⊥
none_at_all events rs kept start ends enough none cycle c k =
    let l : start_of rs cycle < events = start_below events rs ends cycle c in
    none (start_of rs cycle) (omega arith) cycle c k refl

pub none_yet : (rs : List Rule) (kept : ℕ → Bool) (start fewer : ℕ) → NoneShorter rs kept start fewer → ((walk : List ℕ) → IsKeptWalk rs kept (fewer + 1) start walk start → ⊥) → NoneShorter rs kept start (fewer + 1)
none_yet rs kept start fewer before here count walk l h = go (cases_lt count fewer)
  where
    go : (count < fewer) ⊎ (fewer ≤ count) → ⊥
    go (inl k) = before count walk k h
    go (inr k) = here walk (record { is_walk = h.is_walk; is_kept = h.is_kept; counts = let e : length walk ≡ count + 1 = h.counts in omega arith })

pub none_before_next : (rs : List Rule) (kept : ℕ → Bool) (start : ℕ) → NoneBefore rs kept start → NoneFrom rs kept start → NoneBefore rs kept (start + 1)
none_before_next rs kept start before here earlier l cycle c k s = go (cases_lt earlier start)
  where
    go : (earlier < start) ⊎ (start ≤ earlier) → ⊥
    go (inl h) = before earlier h cycle c k s
    go (inr h) = here cycle c k (s ∙ omega arith)
