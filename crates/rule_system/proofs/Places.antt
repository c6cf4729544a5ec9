-- Places of events in an order that grows, and the trail of a search for one.
use Rattle.std.proofs.Common.{◌≡◌, ◌≢◌, ℕ, suc, zero, ◌+◌, ◌-◌, ◌*◌, ◌<◌, ◌≤◌, true, false, eqb, List, [], ◌∷◌, ◌++◌, length, get_or, slice_set, sym, ap, subst, ◌∙◌, arith, ◌⊎◌, inl, inr}
use Rattle.std.specs.List.{IsDistinct, AllByRecursion, list_any}
use Rattle.std.proofs.lemmas.Bool.{cases_eq, cases_lt}
use Rattle.std.proofs.lemmas.Bool.Decides.{nat_tests}
use Rattle.std.proofs.lemmas.List.{get_or-set_same, get_or-set_other, length-set, length-append, get_or_append_left}
use Rattle.std.proofs.Math.Seq.{get_or-append_seam}
use Rattle.std.proofs.lemmas.List.Elements.{All-from_get_or}
use Rattle.std.proofs.lemmas.List.Folds.{list_any_at}
use Rattle.std.proofs.lemmas.Map.Steps.{length-le_from_distinct_below, le-length_from_below}
use Rattle.rule_system.specs.declared.rules.Rule.{Rule}
use Rattle.rule_system.specs.Rules.{rule_at, source_of, target_of}
use Rattle.rule_system.specs.Bounds.{rules_into}
use Rattle.rule_system.specs.Walks.{EndsBelow}
use Rattle.rule_system.specs.Orders.{ArePlaces, AreTried, IsForward, IsSettled, StandsBefore, place_of}
use Rattle.rule_system.proofs.Lists.{all_into}

-- a list of events whose places are their positions holds each once
apart : (f : ℕ → ℕ) (x k : ℕ) (xs : List ℕ) → f x < k → ((i : ℕ) → i < length xs → f (get_or xs i 0) ≡ k + i) → AllByRecursion (λ y. eqb x y ≡ false) xs
apart f x k [] l h = tt
apart f x k (y ∷ xs) l h = (other, apart f x (k + 1) xs (omega arith) (λ i m. h (suc i) (omega arith) ∙ omega arith))
  where
    here : f y ≡ k + 0
    here = h 0 (omega arith)

    differ : x ≢ y
    differ e = let s : f x ≡ f y = ap f e in omega (arith, here, s)

    other : eqb x y ≡ false
    other = grind (arith, nat_tests)

distinct : (f : ℕ → ℕ) (k : ℕ) (xs : List ℕ) → ((i : ℕ) → i < length xs → f (get_or xs i 0) ≡ k + i) → IsDistinct eqb xs
unfolding IsDistinct
distinct f k [] h = tt
distinct f k (x ∷ xs) h =
    let rest : (i : ℕ) → i < length xs → f (get_or xs i 0) ≡ k + 1 + i = λ i m. h (suc i) (omega arith) ∙ omega arith in
    let here : f x ≡ k + 0 = h 0 (omega arith) in
    (apart f x (k + 1) xs (omega arith) rest, distinct f (k + 1) xs rest)

below_all : (xs : List ℕ) (n : ℕ) → ((i : ℕ) → i < length xs → get_or xs i 0 < n) → (q : ℕ) → list_any (eqb q) xs ≡ true → q < n
below_all [] n h q e = cc
below_all (x ∷ xs) n h q e =
    let here : x < n = h 0 (omega arith) in
    let rest : list_any (eqb q) xs ≡ true → q < n = below_all xs n (λ i l. h (suc i) (omega arith)) q in
    grind (arith, nat_tests)

once : (events : ℕ) (rs : List Rule) (order places : List ℕ) → ArePlaces events rs order places → IsDistinct eqb order
once events rs order places h = distinct (place_of places) 0 order (λ i l. (h.there i l).1 ∙ omega arith)

fits : (events : ℕ) (rs : List Rule) (order places : List ℕ) → ArePlaces events rs order places → length order ≤ events
fits events rs order places h = length-le_from_distinct_below order events (once events rs order places h) (below_all order events (λ i l. (h.there i l).0))

-- where an event has no place yet, the order has room
pub room : (events : ℕ) (rs : List Rule) (order places : List ℕ) (event : ℕ) → ArePlaces events rs order places → event < events → events ≤ place_of places event → length order < events
unfolding IsDistinct
room events rs order places event h below left =
    length-le_from_distinct_below (event ∷ order) events (others order (λ i l. i_other i l), once events rs order places h) (below_all (event ∷ order) events all)
  where
    all : (i : ℕ) → i < length (event ∷ order) → get_or (event ∷ order) i 0 < events
    all zero l = below
    all (suc i) l = (h.there i (omega arith)).0

    i_other : (i : ℕ) → i < length order → event ≢ get_or order i 0
    i_other i l e =
        let at : place_of places (get_or order i 0) ≡ i = (h.there i l).1 in
        let s : place_of places event ≡ place_of places (get_or order i 0) = ap (place_of places) e in
        let f : length order ≤ events = fits events rs order places h in
        omega arith

    others : (xs : List ℕ) → ((i : ℕ) → i < length xs → event ≢ get_or xs i 0) → AllByRecursion (λ y. eqb event y ≡ false) xs
    others [] k = tt
    others (y ∷ ys) k = ((let d : event ≢ y = k 0 (omega arith) in grind (arith, nat_tests)), others ys (λ i l. k (suc i) (omega arith)))

-- where each event has a place, the order is whole
pub whole : (events : ℕ) (rs : List Rule) (order places : List ℕ) → ArePlaces events rs order places → EndsBelow events rs → ((event : ℕ) → event < events → place_of places event < events) → IsForward events rs order
whole events rs order places h ends all = record {
  counts = (let l : length order ≤ events = fits events rs order places h in omega (arith, l, le-length_from_below order events held));
  are_events = All-from_get_or (λ event. event < events) order 0 (λ i l. (h.there i l).0);
  once = once events rs order places h;
  forward = forward;
}
  where
    held : (q : ℕ) → q < events → list_any (eqb q) order ≡ true
    held q l =
        let s = h.held q l (all q l) in
        list_any_at (eqb q) order (place_of places q) 0 s.0 (let e : get_or order (place_of places q) 0 ≡ q = s.1 in grind (arith, nat_tests))

    forward : (n : ℕ) → n < length rs → (rule_at rs n).offset ≡ 0 → StandsBefore order (source_of rs n) (target_of rs n)
    forward n inside dead =
        let to = (ends n inside).1 in
        let from = (ends n inside).0 in
        record {
          first = place_of places (source_of rs n);
          second = place_of places (target_of rs n);
          rising = h.rising n inside dead (all (target_of rs n) to);
          inside = (h.held (target_of rs n) to (all (target_of rs n) to)).0;
          is_first = (h.held (source_of rs n) from (all (source_of rs n) from)).1;
          is_second = (h.held (target_of rs n) to (all (target_of rs n) to)).1;
        }

-- where an event without a place takes one, the others keep theirs
put_other : (places : List ℕ) (event k x : ℕ) → x ≢ event → place_of (slice_set places event k) x ≡ place_of places x
put_other places event k x d = get_or-set_other places event x k 0 d

pub put_same : (places : List ℕ) (event k : ℕ) → event < length places → place_of (slice_set places event k) event ≡ k
put_same places event k l = get_or-set_same places event k 0 l

pub stays : (events : ℕ) (places : List ℕ) (event k : ℕ) → events ≤ place_of places event → (x : ℕ) → place_of places x < events → place_of (slice_set places event k) x < events
stays events places event k left x l = rw (put_other places event k x other) l
  where
    other : x ≢ event
    other e = let s : place_of places x ≡ place_of places event = ap (place_of places) e in omega arith

pub tried_on : (events : ℕ) (rs : List Rule) (places tried : List ℕ) (event k : ℕ) → events ≤ place_of places event → AreTried events rs places tried → AreTried events rs (slice_set places event k) tried
tried_on events rs places tried event k left h = record { counts = h.counts; settled = λ e i l m o dead. stays events places event k left _ (h.settled e i l m o dead) }

pub put : (events : ℕ) (rs : List Rule) (order places : List ℕ) (event : ℕ) → EndsBelow events rs → ArePlaces events rs order places → event < events → events ≤ place_of places event → ((n : ℕ) → n < length rs → target_of rs n ≡ event → IsSettled events rs places n) → ArePlaces events rs (order ++ event ∷ []) (slice_set places event (length order))
put events rs order places event ends h below left settled = record {
  counts = rw length-set h.counts;
  there = λ i l. there i (cases_lt i (length order)) l;
  held = λ e l p. held e l (cases_eq e event) p;
  rising = λ n inside dead p. rises n inside dead (cases_eq (target_of rs n) event) p;
}
  where
    inside' : event < length places
    inside' = let c : length places ≡ events = h.counts in omega arith

    here : place_of (slice_set places event (length order)) event ≡ length order
    here = put_same places event (length order) inside'

    roomy : length order < events
    roomy = room events rs order places event h below left

    longer : length (order ++ event ∷ []) ≡ length order + 1
    longer = length-append order (event ∷ [])

    placed_other : (x : ℕ) → place_of places x < events → x ≢ event
    placed_other x l e = let s : place_of places x ≡ place_of places event = ap (place_of places) e in omega arith

    there : (i : ℕ) → (i < length order) ⊎ (length order ≤ i) → i < length (order ++ event ∷ []) → (get_or (order ++ event ∷ []) i 0 < events) × (place_of (slice_set places event (length order)) (get_or (order ++ event ∷ []) i 0) ≡ i)
    there i (inl l) m =
        let t = h.there i l in
        let e : place_of places (get_or order i 0) ≡ i = t.1 in
        let d : get_or order i 0 ≢ event = placed_other (get_or order i 0) (omega (arith, e, l, roomy)) in
        rw (get_or_append_left order (event ∷ []) 0 i l) (t.0, put_other places event (length order) (get_or order i 0) d ∙ e)
    there i (inr g) m =
        let e : i ≡ length order = omega (arith, g, m, longer) in
        rw (e, get_or-append_seam order event [] 0) (below, here)

    held : (x : ℕ) → x < events → (x ≡ event) ⊎ (x ≢ event) → place_of (slice_set places event (length order)) x < events → (place_of (slice_set places event (length order)) x < length (order ++ event ∷ [])) × (get_or (order ++ event ∷ []) (place_of (slice_set places event (length order)) x) 0 ≡ x)
    held x l (inl e) p =
        let at : place_of (slice_set places event (length order)) x ≡ length order = ap (place_of (slice_set places event (length order))) e ∙ here in
        rw at (omega (arith, longer), get_or-append_seam order event [] 0 ∙ sym e)
    held x l (inr d) p =
        let at : place_of (slice_set places event (length order)) x ≡ place_of places x = put_other places event (length order) x d in
        let s = h.held x l (omega arith) in
        let low : place_of places x < length order = s.0 in
        rw at (omega (arith, longer, low), get_or_append_left order (event ∷ []) 0 (place_of places x) low ∙ s.1)

    rises : (n : ℕ) → n < length rs → (rule_at rs n).offset ≡ 0 → (target_of rs n ≡ event) ⊎ (target_of rs n ≢ event) → place_of (slice_set places event (length order)) (target_of rs n) < events → place_of (slice_set places event (length order)) (source_of rs n) < place_of (slice_set places event (length order)) (target_of rs n)
    rises n in' dead (inl e) p =
        let at : place_of (slice_set places event (length order)) (target_of rs n) ≡ length order = ap (place_of (slice_set places event (length order))) e ∙ here in
        let had : place_of places (source_of rs n) < events = settled n in' e dead in
        let low : place_of places (source_of rs n) < length order = (h.held (source_of rs n) (ends n in').0 had).0 in
        let same : place_of (slice_set places event (length order)) (source_of rs n) ≡ place_of places (source_of rs n) = put_other places event (length order) (source_of rs n) (placed_other (source_of rs n) had) in
        omega arith
    rises n in' dead (inr d) p =
        let at : place_of (slice_set places event (length order)) (target_of rs n) ≡ place_of places (target_of rs n) = put_other places event (length order) (target_of rs n) d in
        let up : place_of places (source_of rs n) < place_of places (target_of rs n) = h.rising n in' dead (omega arith) in
        let same : place_of (slice_set places event (length order)) (source_of rs n) ≡ place_of places (source_of rs n) = put_other places event (length order) (source_of rs n) (placed_other (source_of rs n) (omega arith)) in
        omega arith

-- what was settled before a search of an event's list, and what it passed, are all rules into the event
pub all_settled : (events : ℕ) (rs : List Rule) (places tried : List ℕ) (event : ℕ) (row : List ℕ) (at : ℕ) → row ≡ rules_into rs event → event < events → AreTried events rs places tried → ((k : ℕ) → get_or tried event 0 ≤ k → k < at → k < length row → IsSettled events rs places (get_or row k 0)) → length row ≤ at → (n : ℕ) → n < length rs → target_of rs n ≡ event → IsSettled events rs places n
all_settled events rs places tried event row at e l h passed end = all_into rs event (IsSettled events rs places) (subst (λ (r : List ℕ). (k : ℕ) → k < length r → IsSettled events rs places (get_or r k 0)) e (λ k m. go k m (cases_lt k (get_or tried event 0))))
  where
    go : (k : ℕ) → k < length row → (k < get_or tried event 0) ⊎ (get_or tried event 0 ≤ k) → IsSettled events rs places (get_or row k 0)
    go k m (inl low) = subst (λ (r : List ℕ). k < length r → IsSettled events rs places (get_or r k 0)) (sym e) (h.settled event k l low) m
    go k m (inr high) = passed k high (omega arith) m

-- a longer order leaves less to do, whatever the trail
pub less_to_do : (events before after trail shorter : ℕ) → events ≤ 32768 → before < events → after ≡ before + 1 → (events - after) * 40000 + (events - shorter) < (events - before) * 40000 + (events - trail)
less_to_do events before after trail shorter most room one = omega arith
