-- The trail of a search for an order: it grows until it closes, or gives its last event a place.
use Rattle.std.proofs.Common.{◌≡◌, ◌≢◌, ℕ, ◌+◌, ◌<◌, ◌≤◌, false, true, List, [], ◌∷◌, ◌++◌, length, slice_set, reverse, refl, sym, ap, subst, ◌∙◌, arith}
use Rattle.std.specs.List.{AllByRecursion}
use Rattle.std.proofs.lemmas.List.{get_or-set_other, length-append, reverse-append, length-reverse}
use Rattle.rule_system.specs.declared.rules.Rule.{Rule}
use Rattle.rule_system.specs.Rules.{rule_at, source_of, target_of}
use Rattle.rule_system.specs.Walks.{ClosedPart, EndsBelow, IsKept, IsWalk, has_no_offset}
use Rattle.rule_system.specs.Orders.{DeadCycle, IsSettled, IsTrail, IsWaiting, place_of}
use Rattle.rule_system.proofs.Cuts.{long_walk}
use Rattle.rule_system.proofs.Dead.{from_test, to_test}

pub turned : (trail : List ℕ) (n : ℕ) → reverse (trail ++ n ∷ []) ≡ n ∷ reverse trail
turned trail n = reverse-append trail (n ∷ [])

-- a trail of no rule stands at the root
pub at_root : (events : ℕ) (rs : List Rule) (places : List ℕ) (root event : ℕ) (trail : List ℕ) → trail ≡ [] → IsTrail events rs places root event trail → event ≡ root
at_root events rs places root event trail e h = go (subst (λ (t : List ℕ). IsWalk rs event (reverse t) root) e h.is_walk)
  where
    go : event ≡ root → event ≡ root
    go k = k

kept_front : (rs : List Rule) (v w : List ℕ) → IsKept (has_no_offset rs) (v ++ w) → IsKept (has_no_offset rs) v
kept_front rs [] w h = tt
kept_front rs (n ∷ v) w h = (h.0, kept_front rs v w h.1)

kept_back : (rs : List Rule) (v w : List ℕ) → IsKept (has_no_offset rs) (v ++ w) → IsKept (has_no_offset rs) w
kept_back rs [] w h = h
kept_back rs (n ∷ v) w h = kept_back rs v w h.1

dead_part : (rs : List Rule) (a : ℕ) (walk : List ℕ) (b : ℕ) → IsKept (has_no_offset rs) walk → ClosedPart rs a walk b → DeadCycle rs
dead_part rs a walk b kept p = record {
  cycle = p.part;
  is_cycle = p.is_simple.0;
  is_dead = kept_front rs p.part p.after (kept_back rs p.before (p.part ++ p.after) (subst (λ (w : List ℕ). IsKept (has_no_offset rs) w) p.joined kept));
}

-- a trail of as many rules as events has a cycle
pub closes : (events : ℕ) (rs : List Rule) (places : List ℕ) (root event : ℕ) (trail : List ℕ) (n : ℕ) → EndsBelow events rs → IsTrail events rs places root event trail → IsWaiting events rs places event n → events ≤ length (trail ++ n ∷ []) → DeadCycle rs
closes events rs places root event trail n ends h w long =
    dead_part rs (source_of rs n) (n ∷ reverse trail) root (to_test (rule_at rs n).offset w.dead, h.is_dead)
    (long_walk events rs ends (source_of rs n) (n ∷ reverse trail) root (ends n w.inside).0 (w.inside, refl, subst (λ (e : ℕ). IsWalk rs e (reverse trail) root) (sym w.to_it) h.is_walk) size)
  where
    size : events ≤ length (n ∷ reverse trail)
    size = let a : length (trail ++ n ∷ []) ≡ length trail + 1 = length-append trail (n ∷ []) in let b : length (reverse trail) ≡ length trail = length-reverse trail in omega arith

-- the targets of a walk of rules from an event that has all it waits for are other events
others : (events : ℕ) (rs : List Rule) (places : List ℕ) (event k : ℕ) → ((n : ℕ) → n < length rs → target_of rs n ≡ event → IsSettled events rs places n) → (a : ℕ) (walk : List ℕ) (b : ℕ) → IsWalk rs a walk b → events ≤ place_of places a → IsKept (has_no_offset rs) walk → AllByRecursion (λ n. events ≤ place_of places (target_of rs n)) walk → AllByRecursion (λ n. events ≤ place_of (slice_set places event k) (target_of rs n)) walk
others events rs places event k settled a [] b h left kept all = tt
others events rs places event k settled a (n ∷ walk) b h left kept all =
    (rw (get_or-set_other places event (target_of rs n) k 0 other) all.0, others events rs places event k settled (target_of rs n) walk b h.2 all.0 kept.1 all.1)
  where
    other : target_of rs n ≢ event
    other e =
        let s : place_of places (source_of rs n) < events = settled n h.0 e (from_test (rule_at rs n).offset kept.0) in
        let same : place_of places (source_of rs n) ≡ place_of places a = ap (place_of places) h.1 in
        omega arith

-- the event has its place: the trail goes back by its last rule
pub shorter : (events : ℕ) (rs : List Rule) (places : List ℕ) (root event : ℕ) (all trail : List ℕ) (n k : ℕ) → EndsBelow events rs → all ≡ trail ++ n ∷ [] → IsTrail events rs places root event all → ((n : ℕ) → n < length rs → target_of rs n ≡ event → IsSettled events rs places n) → IsTrail events rs (slice_set places event k) root (target_of rs n) trail
shorter events rs places root event all trail n k ends e h settled = record {
  is_walk = walk.2;
  is_dead = kept.1;
  are_left = left.1;
  is_event = (ends n walk.0).1;
  is_left = left.0;
  short = (let s : length all < events = h.short in let l : length all ≡ length trail + 1 = ap length e ∙ length-append trail (n ∷ []) in omega arith);
}
  where
    back : reverse all ≡ n ∷ reverse trail
    back = ap reverse e ∙ turned trail n

    walk : IsWalk rs event (n ∷ reverse trail) root
    walk = subst (λ (w : List ℕ). IsWalk rs event w root) back h.is_walk

    kept : IsKept (has_no_offset rs) (n ∷ reverse trail)
    kept = subst (λ (w : List ℕ). IsKept (has_no_offset rs) w) back h.is_dead

    left : AllByRecursion (λ m. events ≤ place_of (slice_set places event k) (target_of rs m)) (n ∷ reverse trail)
    left = others events rs places event k settled event (n ∷ reverse trail) root walk h.is_left kept (subst (λ (w : List ℕ). AllByRecursion (λ m. events ≤ place_of places (target_of rs m)) w) back h.are_left)

-- a list that has no first element
pub no_items : (xs : List ℕ) → (0 < length xs → false ≡ true) → xs ≡ []
no_items [] h = refl
no_items (x ∷ xs) h = absurd (let e : false ≡ true = h (omega arith) in cc)
