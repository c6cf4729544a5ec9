-- What one relaxation keeps and reaches.
use Rattle.std.proofs.Common.{◌≡◌, ◌≢◌, ℕ, ◌+◌, ◌*◌, ◌<◌, ◌≤◌, ℤ, pos, ◌+ℤ◌, ◌≤ℤ◌, Bool, true, false, cond, List, [], ◌∷◌, ◌++◌, length, ◌⊎◌, inl, inr, refl, sym, ap, subst, ◌∙◌, arith, All}
use Rattle.std.specs.Int.{int_max}
use Rattle.std.proofs.lemmas.Bool.{cases_eq, cases_lt}
use Rattle.std.proofs.lemmas.Int.{ints, clamps}
use Rattle.std.proofs.lemmas.Nat.{mul-le}
use Rattle.std.proofs.lemmas.List.{get_or-set_same, get_or-set_other, length-set, get_or_past}
use lib.Signed.{lt_z}
use Rattle.rule_system.specs.declared.rules.Rule.{Rule}
use Rattle.rule_system.specs.Rules.{rule_at, source_of, target_of, delay_sum, offset_sum}
use Rattle.rule_system.specs.Walks.{IsWalk, IsCycle, EndsBelow}
use Rattle.rule_system.specs.Bounds.{IsSystem}
use Rattle.rule_system.specs.Weights.{weight, rule_weight, time_of, HasNoGain, AreAttained, ShortWalkAtLeast, Covers, AreArrivals, IsArrival}
use Rattle.rule_system.proofs.Erase.{short_walk}
use Rattle.rule_system.proofs.Sums.{walk_sums, ends_below}
use Rattle.rule_system.proofs.Walks.{walk_join}
use Rattle.rule_system.proofs.Arrivals.{push_weight}
use Rattle.potentials.specs.Raised.{raised, AreAbove, AreBelow}
use Rattle.cyc_num.specs.Within.{LiesWithin}
use Rattle.potentials.specs.Times.{ArePathWeights}
use Rattle.potentials.proofs.Growth.{all_within, root_weight}

-- a walk of some weight to an event
abbrev Reached : ℕ → ℕ → List Rule → ℕ → ℕ → ℤ → Type 0
Reached top bottom rs root event time = (walk : List ℕ) × IsWalk rs root walk event × (weight top bottom rs walk ≡ time)

max_of : (P : ℤ → Type 0) (x y : ℤ) → P x → P y → P (int_max x y)
max_of P x y p q = elim (lt_z y x) as (λ (b : Bool). P (cond b x y)) [ true ↦ p | false ↦ q ]

at_target : (top bottom : ℕ) (rule : Rule) (times : List ℤ) → rule.target < length times → time_of (raised top bottom rule times) rule.target ≡ int_max (time_of times rule.target) (time_of times rule.source +ℤ rule_weight top bottom rule)
at_target top bottom rule times h = get_or-set_same times rule.target (int_max (time_of times rule.target) (time_of times rule.source +ℤ rule_weight top bottom rule)) (pos 0) h

elsewhere : (top bottom : ℕ) (rule : Rule) (times : List ℤ) (event : ℕ) → event ≢ rule.target → time_of (raised top bottom rule times) event ≡ time_of times event
elsewhere top bottom rule times event h = get_or-set_other times rule.target event (int_max (time_of times rule.target) (time_of times rule.source +ℤ rule_weight top bottom rule)) (pos 0) h

pub raises : (top bottom : ℕ) (rule : Rule) (times : List ℤ) → rule.target < length times → (event : ℕ) → time_of times event ≤ℤ time_of (raised top bottom rule times) event
raises top bottom rule times h event = go (cases_eq event rule.target)
  where
    go : (event ≡ rule.target) ⊎ (event ≢ rule.target) → time_of times event ≤ℤ time_of (raised top bottom rule times) event
    go (inl e) =
        let v : time_of (raised top bottom rule times) rule.target ≡ int_max (time_of times rule.target) (time_of times rule.source +ℤ rule_weight top bottom rule) = at_target top bottom rule times h in
        rw e (rw v (omega (arith, ints, clamps)))
    go (inr d) = let v : time_of (raised top bottom rule times) event ≡ time_of times event = elsewhere top bottom rule times event d in omega (arith, ints)

pub offers : (top bottom : ℕ) (rule : Rule) (times : List ℤ) → rule.target < length times → (time_of times rule.source +ℤ rule_weight top bottom rule) ≤ℤ time_of (raised top bottom rule times) rule.target
offers top bottom rule times h =
    let v : time_of (raised top bottom rule times) rule.target ≡ int_max (time_of times rule.target) (time_of times rule.source +ℤ rule_weight top bottom rule) = at_target top bottom rule times h in
    rw v (omega (arith, ints, clamps))

pub stays_attained : (top bottom events : ℕ) (rs : List Rule) (root n : ℕ) (times : List ℤ) → EndsBelow events rs → n < length rs → AreAttained top bottom events rs root times → AreAttained top bottom events rs root (raised top bottom (rule_at rs n) times)
stays_attained top bottom events rs root n times ends k h = (length-set times (target_of rs n) (int_max (time_of times (target_of rs n)) (time_of times (source_of rs n) +ℤ rule_weight top bottom (rule_at rs n))) ∙ h.0, λ event e. go event e (cases_eq event (target_of rs n)))
  where
    inside : target_of rs n < length times
    inside = let l : length times ≡ events = h.0 in let e : target_of rs n < events = (ends n k).1 in omega arith

    offered : Reached top bottom rs root (source_of rs n) (time_of times (source_of rs n)) → Reached top bottom rs root (target_of rs n) (time_of times (source_of rs n) +ℤ rule_weight top bottom (rule_at rs n))
    offered w = (w.0 ++ n ∷ [], walk_join rs root w.0 (source_of rs n) (n ∷ []) (target_of rs n) w.1 (k, refl, refl), push_weight top bottom rs w.0 n ∙ ap (λ (t : ℤ). t +ℤ rule_weight top bottom (rule_at rs n)) w.2)

    go : (event : ℕ) → event < events → (event ≡ target_of rs n) ⊎ (event ≢ target_of rs n) → Reached top bottom rs root event (time_of (raised top bottom (rule_at rs n) times) event)
    go event e (inl s) =
        subst (λ (v : ℕ). Reached top bottom rs root v (time_of (raised top bottom (rule_at rs n) times) v)) (sym s)
        (subst (λ (t : ℤ). Reached top bottom rs root (target_of rs n) t) (sym (at_target top bottom (rule_at rs n) times inside))
        (max_of (λ t. Reached top bottom rs root (target_of rs n) t) (time_of times (target_of rs n)) (time_of times (source_of rs n) +ℤ rule_weight top bottom (rule_at rs n)) (h.1 (target_of rs n) (ends n k).1) (offered (h.1 (source_of rs n) (ends n k).0))))
    go event e (inr d) = subst (λ (t : ℤ). Reached top bottom rs root event t) (sym (elsewhere top bottom (rule_at rs n) times event d)) (h.1 event e)

short_weight : (top bottom length' delay offset : ℕ) → bottom ≤ 491520 → delay ≤ 1000000 * length' → length' < 32768 → bottom * delay ≤ 17000000000000000
short_weight top bottom l delay offset b d k =
    let x : delay ≤ 1000000 * 32768 = omega arith in
    let y : bottom * delay ≤ 491520 * (1000000 * 32768) = mul-le bottom delay 491520 (1000000 * 32768) b x in
    omega arith

-- attained numbers stay within the weights of short walks
pub bounded : (top bottom events : ℕ) (rs : List Rule) (root : ℕ) (times : List ℤ) → bottom ≤ 491520 → IsSystem events rs → HasNoGain top bottom rs → root < events → AreAttained top bottom events rs root times → AreBelow 17000000000000000 times
bounded top bottom events rs root times b sys g r h event = go (cases_lt event events)
  where
    one : Reached top bottom rs root event (time_of times event) → time_of times event ≤ℤ pos 17000000000000000
    one w =
        let s : ShortWalkAtLeast top bottom events rs root w.0 event = short_walk top bottom events rs (ends_below events rs sys) g root w.0 event r w.1 in
        let m : weight top bottom rs w.0 ≤ℤ weight top bottom rs s.short = s.at_least in
        let k : length s.short < events = s.is_short in
        let few : events ≤ 32768 = sys.0 in
        let e : weight top bottom rs w.0 ≡ time_of times event = w.2 in
        let z : bottom * delay_sum rs s.short ≤ 17000000000000000 = short_weight top bottom (length s.short) (delay_sum rs s.short) 0 b (walk_sums events rs sys root s.short event s.is_walk).0 (omega arith) in
        omega (arith, ints)

    go : (event < events) ⊎ (events ≤ event) → time_of times event ≤ℤ pos 17000000000000000
    go (inl e) = one (h.1 event e)
    go (inr e) = rw (get_or_past times event (pos 0) (let l : length times ≡ events = h.0 in omega arith)) (omega (arith, ints))

-- ---- a round, rule by rule

-- what stands after the first rules of a round
pub record IsPartRound (top bottom events : ℕ) (rs : List Rule) (root count : ℕ) (before now : List ℤ) : Type 0 where
  pub attained : AreAttained top bottom events rs root now
  pub rose : (event : ℕ) → time_of before event ≤ℤ time_of now event
  pub offered : (n : ℕ) → n < count → (time_of before (source_of rs n) +ℤ rule_weight top bottom (rule_at rs n)) ≤ℤ time_of now (target_of rs n)

pub part_none : (top bottom events : ℕ) (rs : List Rule) (root : ℕ) (times : List ℤ) → AreAttained top bottom events rs root times → IsPartRound top bottom events rs root 0 times times
part_none top bottom events rs root times h = record { attained = h; rose = λ event. omega (arith, ints); offered = λ n k. absurd (omega arith) }

pub part_more : (top bottom events : ℕ) (rs : List Rule) (root count : ℕ) (before now : List ℤ) → EndsBelow events rs → count < length rs → IsPartRound top bottom events rs root count before now → IsPartRound top bottom events rs root (count + 1) before (raised top bottom (rule_at rs count) now)
part_more top bottom events rs root count before now ends k h = record {
  attained = stays_attained top bottom events rs root count now ends k h.attained;
  rose = λ event. up event (raises top bottom (rule_at rs count) now inside event) (h.rose event);
  offered = λ n l. go n (cases_lt n count) l;
}
  where
    inside : target_of rs count < length now
    inside = let l : length now ≡ events = h.attained.0 in let e : target_of rs count < events = (ends count k).1 in omega arith

    up : (event : ℕ) → time_of now event ≤ℤ time_of (raised top bottom (rule_at rs count) now) event → time_of before event ≤ℤ time_of now event → time_of before event ≤ℤ time_of (raised top bottom (rule_at rs count) now) event
    up event p q = omega (arith, ints)

    old : (n : ℕ) → n < count → (time_of before (source_of rs n) +ℤ rule_weight top bottom (rule_at rs n)) ≤ℤ time_of (raised top bottom (rule_at rs count) now) (target_of rs n)
    old n l =
        let p : (time_of before (source_of rs n) +ℤ rule_weight top bottom (rule_at rs n)) ≤ℤ time_of now (target_of rs n) = h.offered n l in
        let q : time_of now (target_of rs n) ≤ℤ time_of (raised top bottom (rule_at rs count) now) (target_of rs n) = raises top bottom (rule_at rs count) now inside (target_of rs n) in
        omega (arith, ints)

    new : (time_of before (source_of rs count) +ℤ rule_weight top bottom (rule_at rs count)) ≤ℤ time_of (raised top bottom (rule_at rs count) now) (target_of rs count)
    new =
        let p : time_of before (source_of rs count) ≤ℤ time_of now (source_of rs count) = h.rose (source_of rs count) in
        let q : (time_of now (source_of rs count) +ℤ rule_weight top bottom (rule_at rs count)) ≤ℤ time_of (raised top bottom (rule_at rs count) now) (target_of rs count) = offers top bottom (rule_at rs count) now inside in
        omega (arith, ints)

    go : (n : ℕ) → (n < count) ⊎ (count ≤ n) → n < count + 1 → (time_of before (source_of rs n) +ℤ rule_weight top bottom (rule_at rs n)) ≤ℤ time_of (raised top bottom (rule_at rs count) now) (target_of rs n)
    go n (inl l) u = old n l
    go n (inr g) u =
        let e : n ≡ count = omega arith in
        subst (λ (m : ℕ). (time_of before (source_of rs m) +ℤ rule_weight top bottom (rule_at rs m)) ≤ℤ time_of (raised top bottom (rule_at rs count) now) (target_of rs m)) (sym e) new

pub covers_none : (top bottom : ℕ) (rs : List Rule) (root : ℕ) (times : List ℤ) → pos 0 ≤ℤ time_of times root → Covers top bottom rs root 0 times
covers_none top bottom rs root times h [] event w k = let e : time_of times root ≡ time_of times event = ap (time_of times) w in omega (arith, ints)
covers_none top bottom rs root times h (n ∷ walk) event w k = absurd (omega arith)

pub arrived : (top bottom events : ℕ) (rs : List Rule) (root : ℕ) (times : List ℤ) → AreAttained top bottom events rs root times → ((any : ℕ) → Covers top bottom rs root any times) → AreArrivals top bottom events rs root times
arrived top bottom events rs root times h k = (h.0, λ event e. one event (h.1 event e))
  where
    one : (event : ℕ) → Reached top bottom rs root event (time_of times event) → IsArrival top bottom rs root event (time_of times event)
    one event w = record { walk = w.0; is_walk = w.1; attained = w.2; greatest = λ walk v. k (length walk) walk event v (omega arith) }

-- ---- the root's number stays 0

closed_weight : (top bottom : ℕ) (rs : List Rule) (root : ℕ) (walk : List ℕ) → HasNoGain top bottom rs → IsWalk rs root walk root → weight top bottom rs walk ≤ℤ pos 0
closed_weight top bottom rs root [] g h = omega (arith, ints)
closed_weight top bottom rs root (n ∷ walk) g h =
    let c : IsCycle rs (n ∷ walk) = subst (λ (a : ℕ). IsWalk rs a (n ∷ walk) a) (sym h.1) h in
    let k : bottom * delay_sum rs (n ∷ walk) ≤ top * offset_sum rs (n ∷ walk) = g (n ∷ walk) c in
    omega (arith, ints)

pub root_zero : (top bottom events : ℕ) (rs : List Rule) (root count : ℕ) (times : List ℤ) → HasNoGain top bottom rs → root < events → AreAttained top bottom events rs root times → Covers top bottom rs root count times → time_of times root ≡ pos 0
root_zero top bottom events rs root count times g k h c =
    let w : Reached top bottom rs root root (time_of times root) = h.1 root k in
    let low : weight top bottom rs [] ≤ℤ time_of times root = c [] root refl (omega arith) in
    let high : weight top bottom rs w.0 ≤ℤ pos 0 = closed_weight top bottom rs root w.0 g w.1 in
    let e : weight top bottom rs w.0 ≡ time_of times root = w.2 in
    omega (arith, ints)

-- ---- how far the numbers lie from 0

pub between : (bound : ℕ) (times : List ℤ) → AreAbove bound times → AreBelow bound times → All (LiesWithin bound) times
between bound times low high = all_within bound times (λ event. (low event, high event))

pub well_between : (times : List ℤ) → AreAbove 17000000000000000 times → AreBelow 17000000000000000 times → All (LiesWithin 40000000000000000) times
well_between times low high = all_within 40000000000000000 times (λ event. one event (low event) (high event))
  where
    one : (event : ℕ) → pos 0 ≤ℤ (time_of times event +ℤ pos 17000000000000000) → time_of times event ≤ℤ pos 17000000000000000 → LiesWithin 40000000000000000 (time_of times event)
    one event l h = (omega (arith, ints), omega (arith, ints))

-- weights of paths bound the walks of no rules
pub covers_start : (top bottom events : ℕ) (rs : List Rule) (root : ℕ) (times : List ℤ) → root < events → ArePathWeights top bottom events rs root times → Covers top bottom rs root 0 times
covers_start top bottom events rs root times k h = covers_none top bottom rs root times (let e : time_of times root ≡ pos 0 = root_weight top bottom events rs root times k h in rw e (omega (arith, ints)))
