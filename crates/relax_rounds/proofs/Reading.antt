-- Words that were read one after the other.
use Rattle.std.proofs.Common.{◌≡◌, ℕ, ◌+◌, ◌<◌, ℤ, pos, ◌≤ℤ◌, List, All, length, set, sym, ◌∙◌, subst, arith, length-set, get_or, get_or-set_other, get_or-set_same}
use Rattle.std.proofs.lemmas.Int.{ints}
use Rattle.std.proofs.lemmas.List.{same_lists, get_or_default}
use mathlib.Core.Logic.{dite}
use native.Mathlib.Decide.{ℕ_discrete}
use Rattle.cyc_num.specs.Within.{LiesWithin, time_limit}
use Rattle.rule_system.specs.Weights.{time_of}
use Rattle.arrival_words.specs.About.{About, IsWeightOfWalk}
use Rattle.arrival_words.specs.Known.{NothingSinks}
use Rattle.relax_rounds.specs.Rounds.{AreAttainedIn}

-- the numbers of the events below n are those that are known
pub record AreRead (a : About) (n : ℕ) (times known : List ℤ) : Type 0 where
  pub wide : length times ≡ length known
  pub same : (e : ℕ) → e < n → time_of times e ≡ time_of known e
  pub walks : (e : ℕ) → e < n → IsWeightOfWalk a e (time_of times e)

pub none_read : (a : About) (times known : List ℤ) → length times ≡ length known → AreRead a 0 times known
none_read a times known h = record { wide = h; same = λ e lt. absurd (omega arith); walks = λ e lt. absurd (omega arith) }

pub one_read : (a : About) (n : ℕ) (times known : List ℤ) (z : ℤ) → AreRead a n times known → n < length times → IsWeightOfWalk a n z → AreRead a (n + 1) (set times n z) (set known n z)
one_read a n times known z r h is = let wide = r.wide in record {
  wide = length-set times n z ∙ r.wide ∙ sym (length-set known n z);
  same = λ e lt. dite (ℕ_discrete e n)
      (λ at. subst (λ (j : ℕ). time_of (set times n z) j ≡ time_of (set known n z) j) (sym at) (get_or-set_same times n z (pos 0) h ∙ sym (get_or-set_same known n z (pos 0) (omega arith))))
      (λ ne. get_or-set_other times n e z (pos 0) ne ∙ r.same e (omega arith) ∙ sym (get_or-set_other known n e z (pos 0) ne));
  walks = λ e lt. dite (ℕ_discrete e n)
      (λ at. subst (λ (j : ℕ). IsWeightOfWalk a j (time_of (set times n z) j)) (sym at) (subst (λ (y : ℤ). IsWeightOfWalk a n y) (sym (get_or-set_same times n z (pos 0) h)) is))
      (λ ne. subst (λ (y : ℤ). IsWeightOfWalk a e y) (sym (get_or-set_other times n e z (pos 0) ne)) (r.walks e (omega arith)));
}

-- a read raises what is known of one event
pub read_kept : (n : ℕ) (known : List ℤ) (z : ℤ) → n < length known → time_of known n ≤ℤ z → NothingSinks known (set known n z)
read_kept n known z h up = record {
  each = λ e. dite (ℕ_discrete e n)
      (λ is. subst (λ (j : ℕ). time_of known j ≤ℤ time_of (set known n z) j) (sym is) (subst (λ (y : ℤ). time_of known n ≤ℤ y) (sym (get_or-set_same known n z (pos 0) h)) up))
      (λ ne. subst (λ (y : ℤ). time_of known e ≤ℤ y) (sym (get_or-set_other known n e z (pos 0) ne)) (omega (arith, ints)));
}

pub all_known : (a : About) (n : ℕ) (times known : List ℤ) → AreRead a n times known → n ≡ length times → known ≡ times
all_known a n times known r h = sym (same_lists times known r.wide (λ k d lt. let near : k < n = omega arith in let wide = r.wide in get_or_default times k d (pos 0) lt ∙ r.same k near ∙ get_or_default known k (pos 0) d (omega arith)))

pub all_attained : (a : About) (n : ℕ) (times known : List ℤ) → AreRead a n times known → n ≡ a.events → length times ≡ a.events → AreAttainedIn a times
all_attained a n times known r h wide = (wide, λ e lt. let w = r.walks e (omega arith) in (w.reached.walk, w.reached.leads, w.reached.weighs))

pub all_within : (a : About) (n : ℕ) (times known : List ℤ) → AreRead a n times known → n ≡ length times → All (LiesWithin time_limit) times
all_within a n times known r h = λ k d lt. subst (LiesWithin time_limit) (get_or_default times k (pos 0) d lt) ((r.walks k (omega arith)).within)

-- a wider limit
pub within_wider : (times : List ℤ) → All (LiesWithin time_limit) times → All (LiesWithin 40000000000000000) times
within_wider times h = λ k d lt. one (get_or times k d) (h k d lt)
  where
    one : (z : ℤ) → LiesWithin time_limit z → LiesWithin 40000000000000000 z
    one z (l, u) = (omega (arith, ints), omega (arith, ints))
