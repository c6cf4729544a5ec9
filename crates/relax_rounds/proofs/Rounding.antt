-- What stands after some rounds.
use Rattle.std.proofs.Common.{◌≡◌, ℕ, ◌+◌, ◌<◌, ℤ, pos, ◌+ℤ◌, ◌≤ℤ◌, List, All, length, subst, sym, arith}
use Rattle.std.proofs.lemmas.Int.{ints}
use Rattle.cyc_num.specs.Within.{LiesWithin, time_limit}
use Rattle.rule_system.specs.Bounds.{EventRules}
use Rattle.rule_system.specs.Walks.{IsWalk, EndsBelow}
use Rattle.rule_system.specs.Weights.{weight, time_of, Covers, IsFeasible}
use Rattle.arrival_words.specs.About.{About, system_of}
use Rattle.arrival_words.specs.Known.{NothingSinks}
use Rattle.relax_rounds.specs.Rounds.{AreAttainedIn, IsFeasibleIn}
use Rattle.relax_rounds.proofs.Joining.{sinks-refl, sinks-trans}

-- after so many rounds: what is known bounds all walks of at most so many rules, and the numbers read last are what is known
pub record Done (a : About) (begun : List ℤ) (steps rounds : ℕ) (known times : List ℤ) (now : ℕ) : Type 0 where
  pub covers : Covers a.top a.bottom a.rules a.root rounds known
  pub kept : NothingSinks begun known
  pub counted : now ≡ steps + rounds
  pub wide : length times ≡ a.events
  pub read : 0 < rounds → known ≡ times
  pub attained : 0 < rounds → AreAttainedIn a times
  pub within : 0 < rounds → All (LiesWithin time_limit) times

pub begun_with : (a : About) (begun times : List ℤ) (steps : ℕ) → length times ≡ a.events → Covers a.top a.bottom a.rules a.root 0 begun → Done a begun steps 0 begun times steps
begun_with a begun times steps wide covers = record {
  covers = covers;
  kept = sinks-refl begun;
  counted = omega arith;
  wide = wide;
  read = λ h. absurd (omega arith);
  attained = λ h. absurd (omega arith);
  within = λ h. absurd (omega arith);
}

pub one_round : (a : About) (begun : List ℤ) (steps rounds : ℕ) (known times after new : List ℤ) (now now' : ℕ) → Done a begun steps rounds known times now
    → Covers a.top a.bottom a.rules a.root (rounds + 1) new → NothingSinks known after → after ≡ new → AreAttainedIn a new → All (LiesWithin time_limit) new → now' ≡ now + 1
    → Done a begun steps (rounds + 1) after new now'
one_round a begun steps rounds known times after new now now' d covers kept is attained within one = record {
  covers = subst (λ (x : List ℤ). Covers a.top a.bottom a.rules a.root (rounds + 1) x) (sym is) covers;
  kept = sinks-trans begun known after d.kept kept;
  counted = let c = d.counted in omega arith;
  wide = attained.0;
  read = λ h. is;
  attained = λ h. attained;
  within = λ h. within;
}

-- numbers that rise along each rule by at least its weight, from 0 at the root, bound all walks
pub feasible_covers : (a : About) (times : List ℤ) → pos 0 ≤ℤ time_of times a.root
    → ((from : ℕ) (walk : List ℕ) (to : ℕ) → IsWalk a.rules from walk to → (time_of times from +ℤ weight a.top a.bottom a.rules walk) ≤ℤ time_of times to)
    → (any : ℕ) → Covers a.top a.bottom a.rules a.root any times
feasible_covers a times root bound any walk event leads few = let b = bound a.root walk event leads in up (time_of times a.root) (weight a.top a.bottom a.rules walk) (time_of times event) root b
  where
    up : (x w y : ℤ) → pos 0 ≤ℤ x → (x +ℤ w) ≤ℤ y → w ≤ℤ y
    up x w y h k = omega (arith, ints)

-- what did not sink below 0
pub not_below : (a : About) (begun after new : List ℤ) → time_of begun a.root ≡ pos 0 → NothingSinks begun after → after ≡ new → pos 0 ≤ℤ time_of new a.root
not_below a begun after new zero kept is = subst (λ (x : List ℤ). pos 0 ≤ℤ time_of x a.root) is (subst (λ (z : ℤ). z ≤ℤ time_of after a.root) zero (kept.each a.root))

-- the parts of the words' system and period are those that the words are about
pub feasible_in : (a : About) (top bottom : ℕ) (s : EventRules) (times : List ℤ) → top ≡ a.top → bottom ≡ a.bottom → s ≡ system_of a → IsFeasible top bottom s.rules times → IsFeasibleIn a times
feasible_in a top bottom s times t b is h =
    subst (λ (x : ℕ). IsFeasible x a.bottom a.rules times) t
    (subst (λ (x : ℕ). IsFeasible top x a.rules times) b (subst (λ (x : EventRules). IsFeasible top bottom x.rules times) is h))

pub ends_in : (a : About) (s : EventRules) → s ≡ system_of a → EndsBelow s.events s.rules → EndsBelow a.events a.rules
ends_in a s is h = subst (λ (x : EventRules). EndsBelow x.events x.rules) is h

-- what is known bounds them, so the numbers that were read do
pub covers_read : (a : About) (begun : List ℤ) (steps rounds : ℕ) (known times : List ℤ) (now : ℕ) → Done a begun steps rounds known times now → 0 < rounds → Covers a.top a.bottom a.rules a.root rounds times
covers_read a begun steps rounds known times now d some = subst (λ (x : List ℤ). Covers a.top a.bottom a.rules a.root rounds x) (d.read some) d.covers
