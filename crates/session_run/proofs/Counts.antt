-- How many items sessions have.
use Rattle.std.proofs.Common.{◌≡◌, ◌≢◌, ◌⊎◌, ⊎_elim, ℕ, zero, suc, ◌+◌, ◌<◌, ◌≤◌, ◌==◌, true, false, cond, List, [], ◌∷◌, length, get_or, refl, ap, ◌∙◌, subst, arith}
use Rattle.std.specs.List.{filter, AllByRecursion as Every}
use mathlib.Core.Logic.{dite}
use native.Mathlib.Decide.{ℕ_discrete}
use Rattle.turn_book.specs.Views.{own}
use Rattle.session_script.specs.Calls.{is_shared}
use Rattle.session_script.specs.declared.calls.Call.{Call}
use Rattle.session_machine.specs.Orders.{times, shared_calls}
use Rattle.session_machine.specs.Alone.{order_of}
use Rattle.session_run.proofs.Numbers.{same_number, other_number}
use Rattle.session_run.specs.Items.{Item, session_of, places_in}
use Rattle.session_run.specs.InTurn.{calls_of}

-- how many items the k sessions from n on have
unfoldable pub counts : ℕ → ℕ → List Item → ℕ
counts n zero seen = 0
counts n (suc k) seen = length (own session_of n seen) + counts (n + 1) k seen

counts_nil : (n k : ℕ) → counts n k [] ≡ 0
unfolding counts
counts_nil n zero = refl
counts_nil n (suc k) = let h = counts_nil (n + 1) k in omega arith

counts_out : (n k : ℕ) (i : Item) (seen : List Item) → session_of i < n → counts n k (i ∷ seen) ≡ counts n k seen
unfolding counts
counts_out n zero i seen h = refl
counts_out n (suc k) i seen h =
    let ne : session_of i ≢ n = λ e. omega arith in
    (λ j. length (cond (other_number (session_of i) n ne j) (i ∷ own session_of n seen) (own session_of n seen)) + counts_out (n + 1) k i seen (omega arith) j)

counts_in : (n k : ℕ) (i : Item) (seen : List Item) → n ≤ session_of i → session_of i < n + k → counts n k (i ∷ seen) ≡ suc (counts n k seen)
unfolding counts
counts_in n zero i seen a b = absurd (omega arith)
counts_in n (suc k) i seen a b = dite (ℕ_discrete (session_of i) n)
    (λ e. let one : length (own session_of n (i ∷ seen)) ≡ suc (length (own session_of n seen)) = ap (λ b. length (cond b (i ∷ own session_of n seen) (own session_of n seen))) (ap (λ m. m == n) e ∙ same_number n) in
    let rest = counts_out (n + 1) k i seen (omega arith) in omega arith)
    (λ ne. let one : length (own session_of n (i ∷ seen)) ≡ length (own session_of n seen) = ap (λ b. length (cond b (i ∷ own session_of n seen) (own session_of n seen))) (other_number (session_of i) n ne) in
    let rest = counts_in (n + 1) k i seen (omega arith) (omega arith) in omega arith)

pub counts_all : (k : ℕ) (seen : List Item) → Every (λ e. (1 ≤ session_of e) × (session_of e ≤ k)) seen → counts 1 k seen ≡ length seen
counts_all k [] e = counts_nil 1 k
counts_all k (i ∷ seen) e = counts_in 1 k i seen e.0.0 (let h = e.0.1 in omega arith) ∙ ap suc (counts_all k seen e.1)

counts_upto : (n : ℕ) (xs : List (List Call)) (seen : List Item) → ((k : ℕ) → k < length xs → length (own session_of (n + k) seen) ≤ shared_calls is_shared (get_or xs k [])) → counts n (length xs) seen ≤ calls_of xs
unfolding counts
counts_upto n [] seen h = omega arith
counts_upto n (x ∷ xs) seen h =
    let here : length (own session_of n seen) ≤ shared_calls is_shared x = let z : n + 0 ≡ n = omega arith in subst (λ m. length (own session_of m seen) ≤ shared_calls is_shared x) z (h 0 (omega arith)) in
    let rest = counts_upto (n + 1) xs seen (λ k lt. let z : n + suc k ≡ n + 1 + k = omega arith in subst (λ m. length (own session_of m seen) ≤ shared_calls is_shared (get_or xs k [])) z (h (suc k) (omega arith))) in
    omega arith

counts_below : (n i : ℕ) (xs : List (List Call)) (seen : List Item) → i < length xs → ((k : ℕ) → k < length xs → length (own session_of (n + k) seen) ≤ shared_calls is_shared (get_or xs k [])) → length (own session_of (n + i) seen) < shared_calls is_shared (get_or xs i []) → counts n (length xs) seen < calls_of xs
unfolding counts
counts_below n i [] seen lt h s = absurd (omega arith)
counts_below n zero (x ∷ xs) seen lt h s =
    let here : length (own session_of n seen) < shared_calls is_shared x = let z : n + 0 ≡ n = omega arith in subst (λ m. length (own session_of m seen) < shared_calls is_shared x) z s in
    let rest = counts_upto (n + 1) xs seen (λ k lt. let z : n + suc k ≡ n + 1 + k = omega arith in subst (λ m. length (own session_of m seen) ≤ shared_calls is_shared (get_or xs k [])) z (h (suc k) (omega arith))) in
    omega arith
counts_below n (suc i) (x ∷ xs) seen lt h s =
    let here : length (own session_of n seen) ≤ shared_calls is_shared x = let z : n + 0 ≡ n = omega arith in subst (λ m. length (own session_of m seen) ≤ shared_calls is_shared x) z (h 0 (omega arith)) in
    let rest = counts_below (n + 1) i xs seen (omega arith) (λ k lt. let z : n + suc k ≡ n + 1 + k = omega arith in subst (λ m. length (own session_of m seen) ≤ shared_calls is_shared (get_or xs k [])) z (h (suc k) (omega arith)))
    (let z : n + suc i ≡ n + 1 + i = omega arith in subst (λ m. length (own session_of m seen) < shared_calls is_shared (get_or xs i [])) z s) in
    omega arith

-- where each session has at most as many items as its script has shared calls, and one has fewer, there are fewer items than shared calls
pub fewer_items : (i : ℕ) (xs : List (List Call)) (seen : List Item) → Every (λ e. (1 ≤ session_of e) × (session_of e ≤ length xs)) seen → i < length xs
    → ((k : ℕ) → k < length xs → length (own session_of (1 + k) seen) ≤ shared_calls is_shared (get_or xs k [])) → length (own session_of (1 + i) seen) < shared_calls is_shared (get_or xs i [])
    → length seen < calls_of xs
fewer_items i xs seen within lt all strict = let a = counts_all (length xs) seen within in let b = counts_below 1 i xs seen lt all strict in omega arith

pub times_own : (s : ℕ) (items : List Item) → times s (order_of (places_in items)) ≡ length (own session_of s items)
times_own s [] = refl
times_own s (i ∷ is) = elim (i.entry.session == s) as (λ b. length (cond b (i.entry.session ∷ filter (λ k. k == s) (order_of (places_in is))) (filter (λ k. k == s) (order_of (places_in is)))) ≡ length (cond b (i ∷ own session_of s is) (own session_of s is))) [
  | true ↦ ap suc (times_own s is)
  | false ↦ times_own s is
]

-- no number outside
pub times_outside : (s given : ℕ) (seen : List Item) → Every (λ e. (1 ≤ session_of e) × (session_of e ≤ given)) seen → (s < 1) ⊎ (given < s) → times s (order_of (places_in seen)) ≡ 0
times_outside s given [] e out = refl
times_outside s given (i ∷ is) e out =
    let ne : i.entry.session ≢ s = λ k. let a = e.0.0 in let b = e.0.1 in ⊎_elim (λ (x : s < 1). absurd (omega arith)) (λ (x : given < s). absurd (omega arith)) out in
    ap (λ b. length (cond b (i.entry.session ∷ filter (λ k. k == s) (order_of (places_in is))) (filter (λ k. k == s) (order_of (places_in is))))) (other_number i.entry.session s ne) ∙ times_outside s given is e.1 out
