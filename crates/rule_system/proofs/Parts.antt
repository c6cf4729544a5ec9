-- Numbers of each event in one list: places linked from the last to the first, then written event by event.
use Rattle.std.proofs.Common.{◌≡◌, ◌≢◌, ℕ, zero, suc, ◌+◌, ◌-◌, ◌<◌, ◌≤◌, ◌==◌, Bool, true, false, cond, Option, None, Some, List, [], ◌∷◌, ◌++◌, length, map, get_or, set, slice_set, slice_range, take, drop, replicate, All, filter, refl, sym, ap, ◌∙◌, arith, ◌⊎◌, inl, inr}
use Rattle.std.specs.List.{range_with_len, count_by}
use Rattle.std.proofs.lemmas.Bool.{cases_eq, cases_lt}
use Rattle.std.proofs.lemmas.Bool.Decides.{nat_tests}
use Rattle.std.proofs.lemmas.List.{get_or-set_same, get_or-set_other, length-set, length-map, length-replicate, get_or-replicate, take-append-le, drop-append-le, get_or_append_left, take_all, append_assoc, append-nil, length-append, length-drop}
use Rattle.std.proofs.lemmas.List.FromFn.{length-range_with_len}
use Rattle.std.proofs.lemmas.List.Sums.{length-filter, count_by-le-length}
use Rattle.std.proofs.Math.Seq.{drop-append_seam, get_or-append_seam}
use Rattle.std.proofs.lemmas.List.Elements.{All-same, All-map, All-weaker}
use Rattle.rule_system.specs.declared.rules.Rule.{Rule}
use Rattle.rule_system.specs.Rules.{source_of, target_of}
use Rattle.rule_system.specs.Bounds.{IsRule, IsSystem, rules_into, rules_out_of}
use Rattle.rule_system.specs.Rows.{places_from, AreParts, IsChain, AreChains}

-- the places from one on, by whether that is of the event
places_step : (ends : List ℕ) (k event : ℕ) → k < length ends → places_from ends k event ≡ cond (get_or ends k 0 == event) (k ∷ places_from ends (k + 1) event) (places_from ends (k + 1) event)
places_step ends k event h = rw split refl
  where
    split : length ends - k ≡ suc (length ends - (k + 1))
    split = omega arith

place_taken : (ends : List ℕ) (k event : ℕ) → k < length ends → get_or ends k 0 ≡ event → places_from ends k event ≡ k ∷ places_from ends (k + 1) event
place_taken ends k event h e =
    let b : (get_or ends k 0 == event) ≡ true = grind (arith, nat_tests) in
    places_step ends k event h ∙ rw b refl

place_passed : (ends : List ℕ) (k event : ℕ) → k < length ends → get_or ends k 0 ≢ event → places_from ends k event ≡ places_from ends (k + 1) event
place_passed ends k event h d =
    let b : (get_or ends k 0 == event) ≡ false = grind (arith, nat_tests) in
    places_step ends k event h ∙ rw b refl

-- a chain of later places stays one where an earlier place is written
chain_set : (nexts : List (Option ℕ)) (k : ℕ) (x start : Option ℕ) (row : List ℕ) → IsChain nexts (k + 1) start row → IsChain (set nexts k x) k start row
chain_set nexts k x start [] c = c
chain_set nexts k x start (n ∷ row) c =
    (c.0, (let l : k + 1 ≤ n = c.1 in omega arith), rw length-set c.2, rw (get_or-set_other nexts k n x None other) (chain_set nexts k x (get_or nexts n None) row c.3))
  where
    other : n ≢ k
    other e = let l : k + 1 ≤ n = c.1 in omega arith

pub no_chains : (ends : List ℕ) (events : ℕ) → AreChains ends (length ends) events (replicate events None) (replicate (length ends) None)
no_chains ends events =
    record { firsts_count = length-replicate events None; nexts_count = length-replicate (length ends) None; chains = λ event k. at event k }
  where
    none : length ends - length ends ≡ 0
    none = omega arith

    at : (event : ℕ) → event < events → IsChain (replicate (length ends) None) (length ends) (get_or (replicate events None) event None) (places_from ends (length ends) event)
    at event k = rw none (get_or-replicate events event None None k)

pub chains_more : (ends : List ℕ) (k events : ℕ) (firsts nexts : List (Option ℕ)) → k < length ends → get_or ends k 0 < events → AreChains ends (k + 1) events firsts nexts → AreChains ends k events (slice_set firsts (get_or ends k 0) (Some k)) (slice_set nexts k (get_or firsts (get_or ends k 0) None))
chains_more ends k events firsts nexts h in' c =
    record { firsts_count = rw length-set c.firsts_count; nexts_count = rw length-set c.nexts_count; chains = λ event inside. go event inside (cases_eq (get_or ends k 0) event) }
  where
    end : ℕ
    end = get_or ends k 0

    later : Option ℕ
    later = get_or firsts (get_or ends k 0) None

    go : (event : ℕ) → event < events → (get_or ends k 0 ≡ event) ⊎ (get_or ends k 0 ≢ event) → IsChain (set nexts k (get_or firsts (get_or ends k 0) None)) k (get_or (set firsts (get_or ends k 0) (Some k)) event None) (places_from ends k event)
    go event inside (inl e) =
        let here : get_or (set firsts (get_or ends k 0) (Some k)) event None ≡ Some k = ap (λ (i : ℕ). get_or (set firsts (get_or ends k 0) (Some k)) i None) (sym e) ∙ get_or-set_same firsts (get_or ends k 0) (Some k) None (let n : length firsts ≡ events = c.firsts_count in omega arith) in
        let after : get_or (set nexts k (get_or firsts (get_or ends k 0) None)) k None ≡ get_or firsts event None = get_or-set_same nexts k (get_or firsts (get_or ends k 0) None) None (let n : length nexts ≡ length ends = c.nexts_count in omega arith) ∙ ap (λ (i : ℕ). get_or firsts i None) e in
        let within : k < length (set nexts k (get_or firsts (get_or ends k 0) None)) = rw length-set (let n : length nexts ≡ length ends = c.nexts_count in omega arith) in
        let least : k ≤ k = omega arith in
        rw (place_taken ends k event h e) (here, least, within, rw after (chain_set nexts k (get_or firsts (get_or ends k 0) None) (get_or firsts event None) (places_from ends (k + 1) event) (c.chains event inside)))
    go event inside (inr d) =
        let here : get_or (set firsts (get_or ends k 0) (Some k)) event None ≡ get_or firsts event None = get_or-set_other firsts (get_or ends k 0) event (Some k) None (λ e. d (sym e)) in
        rw (place_passed ends k event h d, here) (chain_set nexts k (get_or firsts (get_or ends k 0) None) (get_or firsts event None) (places_from ends (k + 1) event) (c.chains event inside))

-- the same, as the loop counts
pub chains_back : (ends : List ℕ) (back place end events : ℕ) (firsts nexts : List (Option ℕ)) → back < length ends → place ≡ length ends - 1 - back → end ≡ get_or ends place 0 → All (λ e. e < events) ends → AreChains ends (length ends - back) events firsts nexts → AreChains ends (length ends - (back + 1)) events (slice_set firsts end (Some place)) (slice_set nexts place (get_or firsts end None))
chains_back ends back place end events firsts nexts h p e below c =
    let inside : place < length ends = omega arith in
    let at : length ends - (back + 1) ≡ place = omega arith in
    let after : length ends - back ≡ place + 1 = omega arith in
    rw (at, e) (chains_more ends place events firsts nexts inside (below place 0 inside) (rw after at c))

-- what is left of a chain while its numbers are appended
pub record HasRest (nexts : List (Option ℕ)) (at : Option ℕ) (index : ℕ) (before now row : List ℕ) : Type 0 where
  pub rest : List ℕ
  pub chain : IsChain nexts 0 at rest
  pub joined : before ++ row ≡ now ++ rest
  pub counts : length rest + index ≡ length row

pub whole_rest : (nexts : List (Option ℕ)) (start : Option ℕ) (before row : List ℕ) → IsChain nexts 0 start row → HasRest nexts start 0 before before row
whole_rest nexts start before row c = record { rest = row; chain = c; joined = refl; counts = omega arith }

some_same : (m n : ℕ) → ◌≡◌ {A = Option ℕ} (Some m) (Some n) → m ≡ n
some_same m n h = cc

none_some : (n : ℕ) → ◌≡◌ {A = Option ℕ} None (Some n) → ⊥
none_some n h = cc

pub shorter_rest : (nexts : List (Option ℕ)) (place index : ℕ) (before now row : List ℕ) → HasRest nexts (Some place) index before now row → HasRest nexts (get_or nexts place None) (index + 1) before (now ++ place ∷ []) row
shorter_rest nexts place index before now row h = go h.rest h.chain h.joined h.counts
  where
    go : (rest : List ℕ) → IsChain nexts 0 (Some place) rest → before ++ row ≡ now ++ rest → length rest + index ≡ length row → HasRest nexts (get_or nexts place None) (index + 1) before (now ++ place ∷ []) row
    go [] c j n = absurd (none_some place (sym c))
    go (m ∷ rest) c j n =
        let same : place ≡ m = some_same place m c.0 in
        record {
          rest = rest;
          chain = rw same c.3;
          joined = j ∙ ap (λ (i : ℕ). now ++ i ∷ rest) (sym same) ∙ sym (append_assoc now (place ∷ []) rest);
          counts = omega arith;
        }

-- nothing is left where the chain has ended, or each place was a step
pub no_rest : (nexts : List (Option ℕ)) (index : ℕ) (before now row : List ℕ) → HasRest nexts None index before now row → now ≡ before ++ row
no_rest nexts index before now row h = go h.rest h.chain h.joined
  where
    go : (rest : List ℕ) → IsChain nexts 0 None rest → before ++ row ≡ now ++ rest → now ≡ before ++ row
    go [] c j = sym (j ∙ append-nil now)
    go (m ∷ rest) c j = absurd (none_some m c.0)

pub all_stepped : (nexts : List (Option ℕ)) (at : Option ℕ) (index : ℕ) (before now row : List ℕ) → length row ≤ index → HasRest nexts at index before now row → now ≡ before ++ row
all_stepped nexts at index before now row l h = go h.rest h.joined h.counts
  where
    go : (rest : List ℕ) → before ++ row ≡ now ++ rest → length rest + index ≡ length row → now ≡ before ++ row
    go [] j n = sym (j ∙ append-nil now)
    go (m ∷ rest) j n = absurd (omega arith)

-- the parts of the first events, and where the next one's begins
pub record IsFilled (lists : ℕ → List ℕ) (done : ℕ) (begins numbers : List ℕ) : Type 0 where
  pub parts : AreParts lists done begins numbers
  pub last : get_or begins done 0 ≡ length numbers

pub none_filled : (lists : ℕ → List ℕ) → IsFilled lists 0 (0 ∷ []) []
none_filled lists =
    record { parts = record { count = refl; rising = λ event k. absurd (omega arith); inside = λ event k. absurd (omega arith); parts = λ event k. absurd (omega arith) }; last = refl }

kept_part : (numbers row : List ℕ) (a b : ℕ) → a ≤ b → b ≤ length numbers → slice_range (numbers ++ row) a b ≡ slice_range numbers a b
kept_part numbers row a b h k =
    let from : a ≤ length numbers = omega arith in
    let long : b - a ≤ length (drop a numbers) = rw length-drop (omega arith) in
    ap (λ (l : List ℕ). take (b - a) l) (drop-append-le a numbers row from) ∙ take-append-le (b - a) (drop a numbers) row long

new_part : (numbers row : List ℕ) → slice_range (numbers ++ row) (length numbers) (length (numbers ++ row)) ≡ row
new_part numbers row =
    let size : length (numbers ++ row) - length numbers ≡ length row = rw length-append (omega arith) in
    let least : length row ≤ length row = omega arith in
    rw (size, drop-append_seam numbers row) (take_all (length row) row least)

pub more_filled : (lists : ℕ → List ℕ) (done : ℕ) (begins numbers now : List ℕ) → now ≡ numbers ++ lists done → IsFilled lists done begins numbers → IsFilled lists (done + 1) (begins ++ length now ∷ []) now
more_filled lists done begins numbers now e h = rw e (record { parts = record { count = counts; rising = λ event k. rises event (cases_le event k); inside = λ event k. stays event (cases_le event k); parts = λ event k. part event (cases_le event k) }; last = last })
  where
    size : ℕ
    size = length (numbers ++ lists done)

    begins_after : List ℕ
    begins_after = begins ++ length (numbers ++ lists done) ∷ []

    count : length begins ≡ done + 1
    count = h.parts.count

    counts : length (begins ++ length (numbers ++ lists done) ∷ []) ≡ done + 1 + 1
    counts = rw (length-append, count) refl

    last : get_or (begins ++ length (numbers ++ lists done) ∷ []) (done + 1) 0 ≡ length (numbers ++ lists done)
    last = ap (λ (i : ℕ). get_or (begins ++ length (numbers ++ lists done) ∷ []) i 0) (sym count) ∙ get_or-append_seam begins (length (numbers ++ lists done)) [] 0

    early : (i : ℕ) → i ≤ done → get_or (begins ++ length (numbers ++ lists done) ∷ []) i 0 ≡ get_or begins i 0
    early i k = get_or_append_left begins (length (numbers ++ lists done) ∷ []) 0 i (let n : length begins ≡ done + 1 = h.parts.count in omega arith)

    cases_le : (event : ℕ) → event < done + 1 → (event < done) ⊎ (event ≡ done)
    cases_le event k = elim (cases_lt event done) [ inl l ↦ inl l | inr g ↦ inr (omega arith) ]

    rises : (event : ℕ) → (event < done) ⊎ (event ≡ done) → get_or (begins ++ length (numbers ++ lists done) ∷ []) event 0 ≤ get_or (begins ++ length (numbers ++ lists done) ∷ []) (event + 1) 0
    rises event (inl k) = rw (early event (omega arith), early (event + 1) (omega arith)) (h.parts.rising event k)
    rises event (inr s) = rw (s, early done (omega arith), last, h.last, length-append) (omega arith)

    stays : (event : ℕ) → (event < done) ⊎ (event ≡ done) → get_or (begins ++ length (numbers ++ lists done) ∷ []) (event + 1) 0 ≤ length (numbers ++ lists done)
    stays event (inl k) = rw (early (event + 1) (omega arith), length-append) (let i : get_or begins (event + 1) 0 ≤ length numbers = h.parts.inside event k in omega arith)
    stays event (inr s) = rw (s, last) (omega arith)

    part : (event : ℕ) → (event < done) ⊎ (event ≡ done) → slice_range (numbers ++ lists done) (get_or (begins ++ length (numbers ++ lists done) ∷ []) event 0) (get_or (begins ++ length (numbers ++ lists done) ∷ []) (event + 1) 0) ≡ lists event
    part event (inl k) =
        rw (early event (omega arith), early (event + 1) (omega arith)) (kept_part numbers (lists done) (get_or begins event 0) (get_or begins (event + 1) 0) (h.parts.rising event k) (h.parts.inside event k) ∙ h.parts.parts event k)
    part event (inr s) = rw (s, early done (omega arith), last, h.last) (new_part numbers (lists done))

-- a part has at most as many numbers as there are places
pub short_places : (ends : List ℕ) (event : ℕ) → length (places_from ends 0 event) ≤ length ends
short_places ends event =
    let all : length (range_with_len 0 (length ends - 0)) ≡ length ends - 0 = length-range_with_len 0 (length ends - 0) in
    let most : count_by (λ n. get_or ends n 0 == event) (range_with_len 0 (length ends - 0)) ≤ length (range_with_len 0 (length ends - 0)) = count_by-le-length (λ n. get_or ends n 0 == event) (range_with_len 0 (length ends - 0)) in
    rw (length-filter (λ n. get_or ends n 0 == event) (range_with_len 0 (length ends - 0))) (omega arith)

from_zero : (n : ℕ) → n - 0 ≡ n
from_zero n = omega arith

same_filter : (p q : ℕ → Bool) (xs : List ℕ) → ((n : ℕ) → p n ≡ q n) → filter p xs ≡ filter q xs
same_filter p q xs h = ap (λ (t : ℕ → Bool). filter t xs) (λ i n. h n i)

target_at : (rs : List Rule) (n : ℕ) → get_or (map (λ r. r.target) rs) n 0 ≡ target_of rs n
target_at [] n = refl
target_at (r ∷ rs) zero = refl
target_at (r ∷ rs) (suc n) = target_at rs n

source_at : (rs : List Rule) (n : ℕ) → get_or (map (λ r. r.source) rs) n 0 ≡ source_of rs n
source_at [] n = refl
source_at (r ∷ rs) zero = refl
source_at (r ∷ rs) (suc n) = source_at rs n

other_lists : (f g : ℕ → List ℕ) (events : ℕ) (begins numbers : List ℕ) → ((event : ℕ) → f event ≡ g event) → AreParts f events begins numbers → AreParts g events begins numbers
other_lists f g events begins numbers e h = record { count = h.count; rising = h.rising; inside = h.inside; parts = λ event k. h.parts event k ∙ e event }

-- the places among the rules' targets are the rules into each event
pub targets_listed : (rs : List Rule) (events : ℕ) (ends begins numbers : List ℕ) → ends ≡ map (λ r. r.target) rs → AreParts (places_from ends 0) events begins numbers → AreParts (rules_into rs) events begins numbers
targets_listed rs events ends begins numbers e h = other_lists (places_from ends 0) (rules_into rs) events begins numbers same h
  where
    same : (event : ℕ) → places_from ends 0 event ≡ rules_into rs event
    same event = ap (λ (l : List ℕ). places_from l 0 event) e ∙ rw (length-map, from_zero (length rs)) (same_filter (λ n. get_or (map (λ r. r.target) rs) n 0 == event) (λ n. target_of rs n == event) (range_with_len 0 (length rs)) (λ n. ap (λ (t : ℕ). t == event) (target_at rs n)))

pub sources_listed : (rs : List Rule) (events : ℕ) (ends begins numbers : List ℕ) → ends ≡ map (λ r. r.source) rs → AreParts (places_from ends 0) events begins numbers → AreParts (rules_out_of rs) events begins numbers
sources_listed rs events ends begins numbers e h = other_lists (places_from ends 0) (rules_out_of rs) events begins numbers same h
  where
    same : (event : ℕ) → places_from ends 0 event ≡ rules_out_of rs event
    same event = ap (λ (l : List ℕ). places_from l 0 event) e ∙ rw (length-map, from_zero (length rs)) (same_filter (λ n. get_or (map (λ r. r.source) rs) n 0 == event) (λ n. source_of rs n == event) (range_with_len 0 (length rs)) (λ n. ap (λ (t : ℕ). t == event) (source_at rs n)))

pub targets_below : (rs : List Rule) (events : ℕ) (ends : List ℕ) → IsSystem events rs → ends ≡ map (λ r. r.target) rs → All (λ e. e < events) ends
targets_below rs events ends h e = All-same (λ e. e < events) ends (map (λ r. r.target) rs) e (All-map (λ (t : ℕ). t < events) (λ (r : Rule). r.target) rs (All-weaker (IsRule events) (λ (r : Rule). r.target < events) (λ r k. k.1) rs h.2))

pub sources_below : (rs : List Rule) (events : ℕ) (ends : List ℕ) → IsSystem events rs → ends ≡ map (λ r. r.source) rs → All (λ e. e < events) ends
sources_below rs events ends h e = All-same (λ e. e < events) ends (map (λ r. r.source) rs) e (All-map (λ (t : ℕ). t < events) (λ (r : Rule). r.source) rs (All-weaker (IsRule events) (λ (r : Rule). r.source < events) (λ r k. k.0) rs h.2))
