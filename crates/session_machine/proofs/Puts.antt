-- Functions with one changed value.
use Rattle.std.proofs.Common.{◌≡◌, ◌≢◌, ℕ, true, false, cond, ◌==◌, sym, ap, ◌∙◌, subst, arith}
use Rattle.std.proofs.lemmas.Bool.Decides.{nat_tests}
use mathlib.Core.Logic.{dite}
use native.Mathlib.Decide.{ℕ_discrete}
use Rattle.session_machine.specs.Orders.{put}

pub same_number : (k : ℕ) → (k == k) ≡ true
same_number k = grind (arith, nat_tests)

pub other_number : (k s : ℕ) → k ≢ s → (k == s) ≡ false
other_number k s h = grind (arith, nat_tests)

-- a fact of one number and of all others
pub by_number : (t : ℕ) (P : ℕ → Type 0) → P t → ((s : ℕ) → s ≢ t → P s) → (s : ℕ) → P s
by_number t P here there s = dite (ℕ_discrete s t) (λ e. subst P (sym e) here) (λ n. there s n)

module _ {A : Type 0} where
  pub put_same : (t : ℕ) (x : A) (f : ℕ → A) → put t x f t ≡ x
  put_same t x f = ap (λ b. cond b x (f t)) (same_number t)

  pub put_other : (t s : ℕ) (x : A) (f : ℕ → A) → s ≢ t → put t x f s ≡ f s
  put_other t s x f h = ap (λ b. cond b x (f s)) (other_number s t h)

  put_id_at : (t : ℕ) (f : ℕ → A) (k : ℕ) → put t (f t) f k ≡ f k
  put_id_at t f k = by_number t (λ k. put t (f t) f k ≡ f k) (put_same t (f t) f) (λ s n. put_other t s (f t) f n) k

  put_put_at : (t : ℕ) (x y : A) (f : ℕ → A) (k : ℕ) → put t x (put t y f) k ≡ put t x f k
  put_put_at t x y f k = by_number t (λ k. put t x (put t y f) k ≡ put t x f k) (put_same t x (put t y f) ∙ sym (put_same t x f)) (λ s n. put_other t s x (put t y f) n ∙ (put_other t s y f n ∙ sym (put_other t s x f n))) k

  pub put_id : (t : ℕ) (f : ℕ → A) → put t (f t) f ≡ f
  put_id t f = λ i k. put_id_at t f k i

  pub put_put : (t : ℕ) (x y : A) (f : ℕ → A) → put t x (put t y f) ≡ put t x f
  put_put t x y f = λ i k. put_put_at t x y f k i
