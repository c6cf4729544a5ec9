-- An order that is filled in at the places of each session.
use Rattle.std.proofs.Common.{◌≡◌, ◌≢◌, ℕ, zero, suc, ◌+◌, ◌<◌, ◌≤◌, ◌==◌, true, false, cond, List, [], ◌∷◌, ◌++◌, map, length, replicate, take, drop, get_or, refl, sym, ap, ◌∙◌, subst, arith, append_assoc, length-append, drop-cons}
use Rattle.std.specs.Prelude.{slice_set, nat_lt}
use Rattle.std.specs.List.{All, AllByRecursion as Every}
use Rattle.std.proofs.lemmas.List.{length-set, length-map}
use Rattle.std.proofs.lemmas.List.Elements.{All-from_recursion}
use Rattle.std.proofs.lemmas.Bool.Decides.{nat_tests}
use mathlib.Core.Logic.{dite}
use native.Mathlib.Decide.{ℕ_discrete}
use Rattle.turn_book.specs.Views.{own}
use Rattle.session_run.proofs.Counts.{counts, counts_all}
use Rattle.session_run.proofs.Numbers.{same_number, other_number}
use Rattle.session_run.proofs.Written.{written}
use Rattle.session_run.specs.declared.threads.ran.Ran.{Ran}
use Rattle.session_run.specs.Items.{Item, session_of, positions}
use Rattle.session_run.specs.Filled.{put_all, PlacesFrom, IsPlaced, total}

positions_length : (n at : ℕ) (seen : List Item) → length (positions n at seen) ≡ length (own session_of n seen)
positions_length n at [] = refl
positions_length n at (i ∷ seen) = elim (i.entry.session == n) as (λ b. length (cond b (at ∷ positions n (at + 1) seen) (positions n (at + 1) seen)) ≡ length (cond b (i ∷ own session_of n seen) (own session_of n seen))) [
  | true ↦ ap suc (positions_length n (at + 1) seen)
  | false ↦ positions_length n (at + 1) seen
]

total_counts : (n : ℕ) (rs : List Ran) (seen : List Item) → PlacesFrom n rs seen → total rs ≡ counts n (length rs) seen
unfolding counts
total_counts n [] seen p = refl
total_counts n (r ∷ rs) seen p = λ j. (ap length p.0 ∙ positions_length n 0 seen) j + total_counts (n + 1) rs seen p.1 j

pub total_is : (rs : List Ran) (seen : List Item) → IsPlaced rs seen → total rs ≡ length seen
total_is rs seen p = total_counts 1 rs seen p.places ∙ counts_all (length rs) seen p.within

-- the sessions below `next` are written
abbrev pub marked : ℕ → List Item → List ℕ
marked next seen = map (λ i. cond (nat_lt (session_of i) next) (session_of i) 0) seen

set_at : (pre ys : List ℕ) (y n : ℕ) → slice_set (pre ++ y ∷ ys) (length pre) n ≡ pre ++ n ∷ ys
set_at [] ys y n = refl
set_at (x ∷ pre) ys y n = ap (λ l. x ∷ l) (set_at pre ys y n)

mark_here : (s n : ℕ) → s ≡ n → n ≡ cond (nat_lt s (n + 1)) s 0
mark_here s n e = grind (arith, nat_tests)

mark_there : (s n : ℕ) → s ≢ n → cond (nat_lt s n) s 0 ≡ cond (nat_lt s (n + 1)) s 0
mark_there s n e = grind (arith, nat_tests)

fill_from : (n : ℕ) (pre : List ℕ) (seen : List Item) → put_all n (positions n (length pre) seen) (pre ++ marked n seen) ≡ pre ++ marked (n + 1) seen
fill_from n pre [] = refl
fill_from n pre (i ∷ seen) =
    let s = session_of i in
    let more : (y : ℕ) → put_all n (positions n (length pre + 1) seen) (pre ++ y ∷ marked n seen) ≡ pre ++ y ∷ marked (n + 1) seen = λ y.
    (λ j. put_all n (positions n (sym (length-append pre (y ∷ [])) j) seen) (sym (append_assoc pre (y ∷ []) (marked n seen)) j))
    ∙ (fill_from n (pre ++ y ∷ []) seen ∙ append_assoc pre (y ∷ []) (marked (n + 1) seen)) in
    dite (ℕ_discrete s n)
    (λ e. ap (λ b. put_all n (cond b (length pre ∷ positions n (length pre + 1) seen) (positions n (length pre + 1) seen)) (pre ++ cond (nat_lt s n) s 0 ∷ marked n seen)) (ap (λ m. m == n) e ∙ same_number n)
    ∙ (ap (put_all n (positions n (length pre + 1) seen)) (set_at pre (marked n seen) (cond (nat_lt s n) s 0) n)
    ∙ (more n ∙ ap (λ y. pre ++ y ∷ marked (n + 1) seen) (mark_here s n e))))
    (λ ne. ap (λ b. put_all n (cond b (length pre ∷ positions n (length pre + 1) seen) (positions n (length pre + 1) seen)) (pre ++ cond (nat_lt s n) s 0 ∷ marked n seen)) (other_number s n ne)
    ∙ (more (cond (nat_lt s n) s 0) ∙ ap (λ y. pre ++ y ∷ marked (n + 1) seen) (mark_there s n ne)))

pub fill_marked : (n : ℕ) (seen : List Item) → put_all n (positions n 0 seen) (marked n seen) ≡ marked (n + 1) seen
fill_marked n seen = fill_from n [] seen

lt_one : (s : ℕ) → 1 ≤ s → cond (nat_lt s 1) s 0 ≡ 0
lt_one s h = grind (arith, nat_tests)

lt_next : (s n : ℕ) → s ≤ n → cond (nat_lt s (n + 1)) s 0 ≡ s
lt_next s n h = grind (arith, nat_tests)

pub marked_first : (k : ℕ) (seen : List Item) → Every (λ e. (1 ≤ session_of e) × (session_of e ≤ k)) seen → marked 1 seen ≡ replicate (length seen) 0
marked_first k [] e = refl
marked_first k (i ∷ seen) e = λ j. lt_one (session_of i) e.0.0 j ∷ marked_first k seen e.1 j

pub marked_last : (k : ℕ) (seen : List Item) → Every (λ e. (1 ≤ session_of e) × (session_of e ≤ k)) seen → marked (k + 1) seen ≡ map session_of seen
marked_last k [] e = refl
marked_last k (i ∷ seen) e = λ j. lt_next (session_of i) k e.0.1 j ∷ marked_last k seen e.1 j

below_by : (n at bound : ℕ) (seen : List Item) → at + length seen ≤ bound → Every (λ p. p < bound) (positions n at seen)
below_by n at bound [] h = tt
below_by n at bound (i ∷ seen) h =
    let more = below_by n (at + 1) bound seen (omega arith) in
    elim (i.entry.session == n) as (λ b. Every (λ p. p < bound) (cond b (at ∷ positions n (at + 1) seen) (positions n (at + 1) seen))) [
      | true ↦ (omega arith, more)
      | false ↦ more
    ]

pub positions_below : (n : ℕ) (seen : List Item) → All (λ p. p < length seen) (positions n 0 seen)
positions_below n seen = All-from_recursion (λ p. p < length seen) (positions n 0 seen) (below_by n 0 (length seen) seen (omega arith))

pub places_at : (n i : ℕ) (rs : List Ran) (seen : List Item) (d : Ran) → PlacesFrom n rs seen → i < length rs → (get_or rs i d).places.items ≡ positions (n + i) 0 seen
places_at n i [] seen d p h = absurd (omega arith)
places_at n zero (r ∷ rs) seen d p h = p.0 ∙ (let e : n ≡ n + 0 = omega arith in ap (λ k. positions k 0 seen) e)
places_at n (suc i) (r ∷ rs) seen d p h = places_at (n + 1) i rs seen d p.1 (omega arith) ∙ (let e : n + 1 + i ≡ n + suc i = omega arith in ap (λ k. positions k 0 seen) e)

pub total_more : (rs : List Ran) (i : ℕ) (d : Ran) → i < length rs → total (drop i rs) ≡ length (get_or rs i d).places.items + total (drop (suc i) rs)
total_more rs i d h = ap total (drop-cons rs i d h)

put_length : (n : ℕ) (ps order : List ℕ) → length (put_all n ps order) ≡ length order
put_length n [] order = refl
put_length n (p ∷ ps) order = put_length n ps (slice_set order p n) ∙ length-set order p n

pub order_next : (seen : List Item) (rs : List Ran) (idx : ℕ) (d : Ran) (number : ℕ) (before after : List ℕ) (size : ℕ) (places : List ℕ) → IsPlaced rs seen → idx < length rs → number ≡ idx + 1 → d ≡ get_or rs idx d → places ≡ d.places.items
    → before ≡ marked (idx + 1) seen → size ≡ length before → after ≡ put_all number places before → take size (after ++ drop (length after) before) ≡ marked (idx + 1 + 1) seen
order_next seen rs idx d number before after size places p lt num item pl is sz put =
    let same : length after ≡ length before = ap length put ∙ put_length number places before in
    let at : places ≡ positions (1 + idx) 0 seen = pl ∙ (ap (λ (r : Ran). r.places.items) item ∙ places_at 1 idx rs seen d p.places lt) in
    let n : 1 + idx ≡ idx + 1 = omega arith in
    written after before size same sz ∙ (put ∙ ((λ j. put_all (num j) ((at ∙ ap (λ k. positions k 0 seen) n) j) (is j)) ∙ fill_marked (idx + 1) seen))

pub fits_within : (seen : List Item) (rs : List Ran) (idx : ℕ) (d : Ran) (places before : List ℕ) → IsPlaced rs seen → idx < length rs → d ≡ get_or rs idx d → places ≡ d.places.items → before ≡ marked (idx + 1) seen → All (λ p. p < length before) places
fits_within seen rs idx d places before p lt item pl is =
    let at : places ≡ positions (1 + idx) 0 seen = pl ∙ (ap (λ (r : Ran). r.places.items) item ∙ places_at 1 idx rs seen d p.places lt) in
    let len : length before ≡ length seen = ap length is ∙ length-map seen (λ (i : Item). cond (nat_lt (session_of i) (idx + 1)) (session_of i) 0) in
    subst (λ (q : List ℕ × ℕ). All (λ p. p < q.1) q.0) (λ j. (sym at j, sym len j)) (positions_below (1 + idx) seen)
