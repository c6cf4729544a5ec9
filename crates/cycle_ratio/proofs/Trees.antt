-- What raising one number keeps, and why the numbers stay small while the parents close no cycle.
use Rattle.std.proofs.Common.{◌≡◌, ◌≢◌, ℕ, zero, suc, ◌+◌, ◌-◌, ◌*◌, ◌==◌, ◌<◌, ◌≤◌, Bool, true, false, Option, None, Some, List, [], ◌∷◌, ◌++◌, length, get_or, slice_set, set, sum, ◌⊎◌, inl, inr, refl, sym, ap, subst, ◌∙◌, arith}
use Rattle.std.proofs.lemmas.Bool.{cases_eq, cases_lt}
use Rattle.std.proofs.lemmas.Bool.Decides.{nat_tests}
use Rattle.std.proofs.lemmas.List.{get_or-set_same, get_or-set_other, length-set, get_or_past, get_or_default}
use Rattle.std.proofs.lemmas.List.Sums.{sum_by-set, sum_by-le}
use Rattle.std.proofs.lemmas.Nat.{mul-le}
use Rattle.rule_system.specs.declared.rules.Rule.{Rule}
use Rattle.rule_system.specs.Rules.{no_rule, rule_at, source_of, target_of, delay_sum, offset_sum}
use Rattle.rule_system.specs.Walks.{IsWalk, IsCycle, IsPath, IsKept, IsLive, KeptPath, EndsBelow}
use Rattle.rule_system.specs.FirstCycle.{IsFirstCycle, IsCycleBefore}
use Rattle.rule_system.specs.Bounds.{IsSystem}
use Rattle.rule_system.specs.Weights.{HasNoGain, Gains}
use Rattle.rule_system.proofs.Sums.{walk_sums, ends_below}
use Rattle.rule_system.proofs.Paths.{PartedAt, Misses, part_at, path_cons, path_short, empty_path}
use Rattle.rule_system.proofs.Erase.{close, kept_path}
use Rattle.cycle_ratio.specs.Cycles.{IsShortCycle}
use Rattle.first_cycle.specs.Numbers.{number_of}
use Rattle.cycle_ratio.specs.Trees.{parent_of, is_parent, is_chosen, is_raising, raised, adopted, IsTree, AreAtMost}

-- ---- parents

pub parent_from_test : (p : Option ℕ) (n : ℕ) → is_parent p n ≡ true → p ≡ Some n
parent_from_test None n h = absurd (let f : false ≡ true = h in cc)
parent_from_test (Some m) n h = let e : m ≡ n = same m n h in ap (λ (k : ℕ). Some k) e
  where
    same : (a b : ℕ) → (a == b) ≡ true → a ≡ b
    same a b h = grind (arith, nat_tests)

pub test_from_parent : (p : Option ℕ) (n : ℕ) → p ≡ Some n → is_parent p n ≡ true
test_from_parent p n h = rw h (same n)
  where
    same : (a : ℕ) → (a == a) ≡ true
    same a = grind (arith, nat_tests)

some_same : (m n : ℕ) → ◌≡◌ {A = Option ℕ} (Some m) (Some n) → m ≡ n
some_same m n h = cc

none_some : (n : ℕ) → ◌≡◌ {A = Option ℕ} None (Some n) → ⊥
none_some n h = cc

-- ---- numbers at which nothing is raised

-- the rule leads to no more than its target has
abbrev pub IsLoose : ℕ → ℕ → List Rule → List ℕ → ℕ → Type 0
IsLoose top bottom rs numbers n =
    number_of numbers (source_of rs n) + bottom * (rule_at rs n).delay ≤ number_of numbers (target_of rs n) + top * (rule_at rs n).offset

loose_walk : (top bottom : ℕ) (rs : List Rule) (numbers : List ℕ) → ((n : ℕ) → n < length rs → IsLoose top bottom rs numbers n) → (a : ℕ) (walk : List ℕ) (b : ℕ) → IsWalk rs a walk b → number_of numbers a + bottom * delay_sum rs walk ≤ number_of numbers b + top * offset_sum rs walk
loose_walk top bottom rs numbers f a [] b h = let e : number_of numbers a ≡ number_of numbers b = ap (number_of numbers) h in omega arith
loose_walk top bottom rs numbers f a (n ∷ w) b h =
    let here : number_of numbers (source_of rs n) + bottom * (rule_at rs n).delay ≤ number_of numbers (target_of rs n) + top * (rule_at rs n).offset = f n h.0 in
    let rest : number_of numbers (target_of rs n) + bottom * delay_sum rs w ≤ number_of numbers b + top * offset_sum rs w = loose_walk top bottom rs numbers f (target_of rs n) w b h.2 in
    let e : number_of numbers (source_of rs n) ≡ number_of numbers a = ap (number_of numbers) h.1 in
    omega arith

-- settled numbers show that no cycle gains
pub settled_no_gain : (top bottom : ℕ) (rs : List Rule) (numbers : List ℕ) → ((n : ℕ) → n < length rs → IsLoose top bottom rs numbers n) → HasNoGain top bottom rs
settled_no_gain top bottom rs numbers f [] h = absurd h
settled_no_gain top bottom rs numbers f (n ∷ w) h =
    let all : number_of numbers (source_of rs n) + bottom * delay_sum rs (n ∷ w) ≤ number_of numbers (source_of rs n) + top * offset_sum rs (n ∷ w) = loose_walk top bottom rs numbers f (source_of rs n) (n ∷ w) (source_of rs n) h in
    omega arith

-- ---- one number raised

abbrev next_number : (top bottom : ℕ) (rs : List Rule) (numbers : List ℕ) (n : ℕ) → ℕ
next_number top bottom rs numbers n = number_of numbers (source_of rs n) + bottom * (rule_at rs n).delay - top * (rule_at rs n).offset

-- the rule leads to more than its target has
abbrev Raises : (top bottom : ℕ) (rs : List Rule) (numbers : List ℕ) (n : ℕ) → Type 0
Raises top bottom rs numbers n =
    number_of numbers (target_of rs n) + top * (rule_at rs n).offset < number_of numbers (source_of rs n) + bottom * (rule_at rs n).delay

rises : (top bottom : ℕ) (rs : List Rule) (numbers : List ℕ) (n : ℕ) → target_of rs n < length numbers → Raises top bottom rs numbers n → (event : ℕ) → number_of numbers event ≤ number_of (slice_set numbers (target_of rs n) (next_number top bottom rs numbers n)) event
rises top bottom rs numbers n h r event = go (cases_eq event (target_of rs n))
  where
    go : (event ≡ target_of rs n) ⊎ (event ≢ target_of rs n) → number_of numbers event ≤ number_of (slice_set numbers (target_of rs n) (next_number top bottom rs numbers n)) event
    go (inl e) =
        let v : number_of (slice_set numbers (target_of rs n) (next_number top bottom rs numbers n)) (target_of rs n) ≡ next_number top bottom rs numbers n = get_or-set_same numbers (target_of rs n) (next_number top bottom rs numbers n) 0 h in
        rw e (rw v (omega arith))
    go (inr d) = let v : number_of (slice_set numbers (target_of rs n) (next_number top bottom rs numbers n)) event ≡ number_of numbers event = get_or-set_other numbers (target_of rs n) event (next_number top bottom rs numbers n) 0 d in omega arith

-- a rule that is chosen afterwards is the new parent, or was chosen before
chosen_before : (rs : List Rule) (parents : List (Option ℕ)) (n m : ℕ) → target_of rs n < length parents → is_chosen rs (slice_set parents (target_of rs n) (Some n)) m ≡ true → (m ≡ n) ⊎ (parent_of parents (target_of rs m) ≡ Some m)
chosen_before rs parents n m h k = go (cases_eq (target_of rs m) (target_of rs n))
  where
    now : parent_of (slice_set parents (target_of rs n) (Some n)) (target_of rs m) ≡ Some m
    now = parent_from_test (parent_of (slice_set parents (target_of rs n) (Some n)) (target_of rs m)) m k

    go : (target_of rs m ≡ target_of rs n) ⊎ (target_of rs m ≢ target_of rs n) → (m ≡ n) ⊎ (parent_of parents (target_of rs m) ≡ Some m)
    go (inl e) = inl (sym (some_same n m (sym (get_or-set_same parents (target_of rs n) (Some n) None h) ∙ ap (parent_of (slice_set parents (target_of rs n) (Some n))) (sym e) ∙ now)))
    go (inr d) = inr (sym (get_or-set_other parents (target_of rs n) (target_of rs m) (Some n) None d) ∙ now)

-- along a walk of chosen rules the old numbers rise by no more than the weight, and by less if the new parent is among them
new_walk : (top bottom events : ℕ) (rs : List Rule) (numbers : List ℕ) (parents : List (Option ℕ)) (n : ℕ) → target_of rs n < length parents → Raises top bottom rs numbers n → IsTree top bottom events rs numbers parents → (a : ℕ) (walk : List ℕ) (b : ℕ) → IsWalk rs a walk b → IsKept (is_chosen rs (slice_set parents (target_of rs n) (Some n))) walk → (number_of numbers b + top * offset_sum rs walk < number_of numbers a + bottom * delay_sum rs walk) ⊎ ((number_of numbers b + top * offset_sum rs walk ≤ number_of numbers a + bottom * delay_sum rs walk) × IsKept (is_chosen rs parents) walk)
new_walk top bottom events rs numbers parents n h r t a [] b w k = let e : number_of numbers a ≡ number_of numbers b = ap (number_of numbers) w in inr (omega arith, tt)
new_walk top bottom events rs numbers parents n h r t a (m ∷ walk) b w k = go (chosen_before rs parents n m h k.0) (new_walk top bottom events rs numbers parents n h r t (target_of rs m) walk b w.2 k.1)
  where
    from : number_of numbers (source_of rs m) ≡ number_of numbers a
    from = ap (number_of numbers) w.1

    here : (m ≡ n) → number_of numbers (target_of rs m) + top * (rule_at rs m).offset < number_of numbers (source_of rs m) + bottom * (rule_at rs m).delay
    here e = rw e r

    go : (m ≡ n) ⊎ (parent_of parents (target_of rs m) ≡ Some m) → (number_of numbers b + top * offset_sum rs walk < number_of numbers (target_of rs m) + bottom * delay_sum rs walk) ⊎ ((number_of numbers b + top * offset_sum rs walk ≤ number_of numbers (target_of rs m) + bottom * delay_sum rs walk) × IsKept (is_chosen rs parents) walk) → (number_of numbers b + top * offset_sum rs (m ∷ walk) < number_of numbers a + bottom * delay_sum rs (m ∷ walk)) ⊎ ((number_of numbers b + top * offset_sum rs (m ∷ walk) ≤ number_of numbers a + bottom * delay_sum rs (m ∷ walk)) × IsKept (is_chosen rs parents) (m ∷ walk))
    go (inl e) (inl l) = let s : number_of numbers (target_of rs m) + top * (rule_at rs m).offset < number_of numbers (source_of rs m) + bottom * (rule_at rs m).delay = here e in let f = from in inl (omega arith)
    go (inl e) (inr l) = let s : number_of numbers (target_of rs m) + top * (rule_at rs m).offset < number_of numbers (source_of rs m) + bottom * (rule_at rs m).delay = here e in let f = from in let z : number_of numbers b + top * offset_sum rs walk ≤ number_of numbers (target_of rs m) + bottom * delay_sum rs walk = l.0 in inl (omega arith)
    go (inr p) (inl l) = let s : number_of numbers (target_of rs m) + top * (rule_at rs m).offset ≤ number_of numbers (source_of rs m) + bottom * (rule_at rs m).delay = t.backed (target_of rs m) m p in let f = from in inl (omega arith)
    go (inr p) (inr l) = let s : number_of numbers (target_of rs m) + top * (rule_at rs m).offset ≤ number_of numbers (source_of rs m) + bottom * (rule_at rs m).delay = t.backed (target_of rs m) m p in let f = from in let z : number_of numbers b + top * offset_sum rs walk ≤ number_of numbers (target_of rs m) + bottom * delay_sum rs walk = l.0 in inr (omega arith, (test_from_parent (parent_of parents (target_of rs m)) m p, l.1))

new_heavy : (top bottom events : ℕ) (rs : List Rule) (numbers : List ℕ) (parents : List (Option ℕ)) (n : ℕ) → target_of rs n < length parents → Raises top bottom rs numbers n → IsTree top bottom events rs numbers parents → (cycle : List ℕ) → IsCycle rs cycle → IsKept (is_chosen rs (slice_set parents (target_of rs n) (Some n))) cycle → Gains top bottom rs cycle
new_heavy top bottom events rs numbers parents n h r t [] c k = absurd c
new_heavy top bottom events rs numbers parents n h r t (m ∷ w) c k = go (new_walk top bottom events rs numbers parents n h r t (source_of rs m) (m ∷ w) (source_of rs m) c k)
  where
    go : (number_of numbers (source_of rs m) + top * offset_sum rs (m ∷ w) < number_of numbers (source_of rs m) + bottom * delay_sum rs (m ∷ w)) ⊎ ((number_of numbers (source_of rs m) + top * offset_sum rs (m ∷ w) ≤ number_of numbers (source_of rs m) + bottom * delay_sum rs (m ∷ w)) × IsKept (is_chosen rs parents) (m ∷ w)) → Gains top bottom rs (m ∷ w)
    go (inl l) = omega arith
    go (inr l) = t.heavy (m ∷ w) c l.1

-- a raised number leaves a tree
pub tree_raise : (top bottom events : ℕ) (rs : List Rule) (numbers : List ℕ) (parents : List (Option ℕ)) (n : ℕ) → EndsBelow events rs → n < length rs → Raises top bottom rs numbers n → IsTree top bottom events rs numbers parents → IsTree top bottom events rs (slice_set numbers (target_of rs n) (next_number top bottom rs numbers n)) (slice_set parents (target_of rs n) (Some n))
tree_raise top bottom events rs numbers parents n ends k r t = record {
  count = length-set numbers (target_of rs n) (next_number top bottom rs numbers n) ∙ t.count;
  parent_count = length-set parents (target_of rs n) (Some n) ∙ t.parent_count;
  rooted = λ event e. root event e (cases_eq event (target_of rs n));
  inside = λ event m e. within event m e (cases_eq event (target_of rs n));
  above = λ event m e. over event m e (cases_eq event (target_of rs n));
  backed = λ event m e. back event m e (cases_eq event (target_of rs n));
  heavy = new_heavy top bottom events rs numbers parents n there r t;
}
  where
    here : target_of rs n < length numbers
    here = let l : length numbers ≡ events = t.count in let e : target_of rs n < events = (ends n k).1 in omega arith

    there : target_of rs n < length parents
    there = let l : length parents ≡ events = t.parent_count in let e : target_of rs n < events = (ends n k).1 in omega arith

    mine : (event : ℕ) → event ≡ target_of rs n → parent_of (slice_set parents (target_of rs n) (Some n)) event ≡ Some n
    mine event e = rw e (get_or-set_same parents (target_of rs n) (Some n) None there)

    other : (event : ℕ) → event ≢ target_of rs n → parent_of (slice_set parents (target_of rs n) (Some n)) event ≡ parent_of parents event
    other event d = get_or-set_other parents (target_of rs n) event (Some n) None d

    new_value : number_of (slice_set numbers (target_of rs n) (next_number top bottom rs numbers n)) (target_of rs n) ≡ next_number top bottom rs numbers n
    new_value = get_or-set_same numbers (target_of rs n) (next_number top bottom rs numbers n) 0 here

    old_value : (event : ℕ) → event ≢ target_of rs n → number_of (slice_set numbers (target_of rs n) (next_number top bottom rs numbers n)) event ≡ number_of numbers event
    old_value event d = get_or-set_other numbers (target_of rs n) event (next_number top bottom rs numbers n) 0 d

    root : (event : ℕ) → parent_of (slice_set parents (target_of rs n) (Some n)) event ≡ None → (event ≡ target_of rs n) ⊎ (event ≢ target_of rs n) → number_of (slice_set numbers (target_of rs n) (next_number top bottom rs numbers n)) event ≡ 0
    root event p (inl e) = absurd (none_some n (sym p ∙ mine event e))
    root event p (inr d) = old_value event d ∙ t.rooted event (sym (other event d) ∙ p)

    within : (event m : ℕ) → parent_of (slice_set parents (target_of rs n) (Some n)) event ≡ Some m → (event ≡ target_of rs n) ⊎ (event ≢ target_of rs n) → m < length rs
    within event m p (inl e) = let s : n ≡ m = some_same n m (sym (mine event e) ∙ p) in subst (λ (v : ℕ). v < length rs) s k
    within event m p (inr d) = t.inside event m (sym (other event d) ∙ p)

    over : (event m : ℕ) → parent_of (slice_set parents (target_of rs n) (Some n)) event ≡ Some m → (event ≡ target_of rs n) ⊎ (event ≢ target_of rs n) → target_of rs m ≡ event
    over event m p (inl e) = let s : n ≡ m = some_same n m (sym (mine event e) ∙ p) in ap (target_of rs) (sym s) ∙ sym e
    over event m p (inr d) = t.above event m (sym (other event d) ∙ p)

    backed_new : number_of (slice_set numbers (target_of rs n) (next_number top bottom rs numbers n)) (target_of rs n) + top * (rule_at rs n).offset ≤ number_of (slice_set numbers (target_of rs n) (next_number top bottom rs numbers n)) (source_of rs n) + bottom * (rule_at rs n).delay
    backed_new =
        let v : number_of (slice_set numbers (target_of rs n) (next_number top bottom rs numbers n)) (target_of rs n) ≡ next_number top bottom rs numbers n = new_value in
        let g : number_of numbers (source_of rs n) ≤ number_of (slice_set numbers (target_of rs n) (next_number top bottom rs numbers n)) (source_of rs n) = rises top bottom rs numbers n here r (source_of rs n) in
        let q : number_of numbers (target_of rs n) + top * (rule_at rs n).offset < number_of numbers (source_of rs n) + bottom * (rule_at rs n).delay = r in
        omega arith

    back : (event m : ℕ) → parent_of (slice_set parents (target_of rs n) (Some n)) event ≡ Some m → (event ≡ target_of rs n) ⊎ (event ≢ target_of rs n) → number_of (slice_set numbers (target_of rs n) (next_number top bottom rs numbers n)) event + top * (rule_at rs m).offset ≤ number_of (slice_set numbers (target_of rs n) (next_number top bottom rs numbers n)) (source_of rs m) + bottom * (rule_at rs m).delay
    back event m p (inl e) = let s : n ≡ m = some_same n m (sym (mine event e) ∙ p) in rw e (subst (λ (v : ℕ). number_of (slice_set numbers (target_of rs n) (next_number top bottom rs numbers n)) (target_of rs n) + top * (rule_at rs v).offset ≤ number_of (slice_set numbers (target_of rs n) (next_number top bottom rs numbers n)) (source_of rs v) + bottom * (rule_at rs v).delay) s backed_new)
    back event m p (inr d) =
        let v : number_of (slice_set numbers (target_of rs n) (next_number top bottom rs numbers n)) event ≡ number_of numbers event = old_value event d in
        let g : number_of numbers (source_of rs m) ≤ number_of (slice_set numbers (target_of rs n) (next_number top bottom rs numbers n)) (source_of rs m) = rises top bottom rs numbers n here r (source_of rs m) in
        let q : number_of numbers event + top * (rule_at rs m).offset ≤ number_of numbers (source_of rs m) + bottom * (rule_at rs m).delay = t.backed event m (sym (other event d) ∙ p) in
        omega arith

sum_rises : (numbers : List ℕ) (event value : ℕ) → event < length numbers → number_of numbers event < value → sum numbers < sum (slice_set numbers event value)
sum_rises numbers event value h k = let e : sum (set numbers event value) + get_or numbers event 0 ≡ sum numbers + value = sum_by-set (λ (x : ℕ). x) numbers event value 0 h in omega arith

-- the raised number is at most the rule's delay above the greatest
pub next_small : (top bottom bound : ℕ) (rs : List Rule) (numbers : List ℕ) (n : ℕ) → bottom ≤ 491520 → (rule_at rs n).delay ≤ 1000000 → target_of rs n < length numbers → AreAtMost bound numbers → AreAtMost (bound + 491520000000) (slice_set numbers (target_of rs n) (next_number top bottom rs numbers n))
next_small top bottom bound rs numbers n b d h small event = go (cases_eq event (target_of rs n))
  where
    product : bottom * (rule_at rs n).delay ≤ 491520 * 1000000
    product = mul-le bottom (rule_at rs n).delay 491520 1000000 b d

    go : (event ≡ target_of rs n) ⊎ (event ≢ target_of rs n) → number_of (slice_set numbers (target_of rs n) (next_number top bottom rs numbers n)) event ≤ bound + 491520000000
    go (inl e) =
        let v : number_of (slice_set numbers (target_of rs n) (next_number top bottom rs numbers n)) (target_of rs n) ≡ next_number top bottom rs numbers n = get_or-set_same numbers (target_of rs n) (next_number top bottom rs numbers n) 0 h in
        let s : number_of numbers (source_of rs n) ≤ bound = small (source_of rs n) in
        let p : bottom * (rule_at rs n).delay ≤ 491520 * 1000000 = product in
        rw e (rw v (omega arith))
    go (inr d) =
        let v : number_of (slice_set numbers (target_of rs n) (next_number top bottom rs numbers n)) event ≡ number_of numbers event = get_or-set_other numbers (target_of rs n) event (next_number top bottom rs numbers n) 0 d in
        let s : number_of numbers event ≤ bound = small event in
        omega arith

-- ---- a round, rule by rule

-- what stands after the first rules of a round
pub record IsPartRound (top bottom events : ℕ) (rs : List Rule) (count : ℕ) (before now : List ℕ) (parents : List (Option ℕ)) (rose : Bool) : Type 0 where
  pub tree : IsTree top bottom events rs now parents
  pub small : AreAtMost (20000000000000000 + count * 491520000000) now
  pub grew : rose ≡ true → sum before < sum now
  pub same : rose ≡ false → now ≡ before
  pub settled : rose ≡ false → (n : ℕ) → n < count → IsLoose top bottom rs now n

pub part_none : (top bottom events : ℕ) (rs : List Rule) (numbers : List ℕ) (parents : List (Option ℕ)) → IsTree top bottom events rs numbers parents → AreAtMost 20000000000000000 numbers → IsPartRound top bottom events rs 0 numbers numbers parents false
part_none top bottom events rs numbers parents t s = record { tree = t; small = λ event. (let k : number_of numbers event ≤ 20000000000000000 = s event in omega arith); grew = λ e. cc; same = λ e. refl; settled = λ e n k. absurd (omega arith) }

pub part_raise : (top bottom events : ℕ) (rs : List Rule) (count : ℕ) (before now : List ℕ) (parents : List (Option ℕ)) (rose : Bool) → bottom ≤ 491520 → IsSystem events rs → count < length rs → is_raising top bottom (rule_at rs count) now ≡ true → IsPartRound top bottom events rs count before now parents rose → IsPartRound top bottom events rs (count + 1) before (raised top bottom (rule_at rs count) now) (adopted top bottom (rule_at rs count) count now parents) true
part_raise top bottom events rs count before now parents rose b sys k test h = rw test (record {
  tree = tree_raise top bottom events rs now parents count (ends_below events rs sys) k r h.tree;
  small = bound;
  grew = λ e. grow rose refl;
  same = λ e. absurd (clash e);
  settled = λ e. absurd (clash e);
})
  where
    clash : true ≡ false → ⊥
    clash e = cc

    r : Raises top bottom rs now count
    r = grind (arith, nat_tests)

    here : target_of rs count < length now
    here = let l : length now ≡ events = h.tree.count in let e : target_of rs count < events = (ends_below events rs sys count k).1 in omega arith

    bound : AreAtMost (20000000000000000 + (count + 1) * 491520000000) (slice_set now (target_of rs count) (next_number top bottom rs now count))
    bound event =
        let s : number_of (slice_set now (target_of rs count) (next_number top bottom rs now count)) event ≤ (20000000000000000 + count * 491520000000) + 491520000000 = next_small top bottom (20000000000000000 + count * 491520000000) rs now count b (sys.2 count no_rule k).2.0 here h.small event in
        omega arith

    step : sum now < sum (slice_set now (target_of rs count) (next_number top bottom rs now count))
    step = sum_rises now (target_of rs count) (next_number top bottom rs now count) here (let q : number_of now (target_of rs count) + top * (rule_at rs count).offset < number_of now (source_of rs count) + bottom * (rule_at rs count).delay = r in omega arith)

    grow : (v : Bool) → rose ≡ v → sum before < sum (slice_set now (target_of rs count) (next_number top bottom rs now count))
    grow true e =
        let f : sum before < sum now = h.grew e in
        let g : sum now < sum (slice_set now (target_of rs count) (next_number top bottom rs now count)) = step in
        omega arith
    grow false e =
        let f : sum now ≡ sum before = ap sum (h.same e) in
        let g : sum now < sum (slice_set now (target_of rs count) (next_number top bottom rs now count)) = step in
        omega arith

pub part_still : (top bottom events : ℕ) (rs : List Rule) (count : ℕ) (before now : List ℕ) (parents : List (Option ℕ)) (rose : Bool) → is_raising top bottom (rule_at rs count) now ≡ false → IsPartRound top bottom events rs count before now parents rose → IsPartRound top bottom events rs (count + 1) before (raised top bottom (rule_at rs count) now) (adopted top bottom (rule_at rs count) count now parents) rose
part_still top bottom events rs count before now parents rose test h = rw test (record {
  tree = h.tree;
  small = λ event. (let s : number_of now event ≤ 20000000000000000 + count * 491520000000 = h.small event in omega arith);
  grew = h.grew;
  same = h.same;
  settled = λ e n k. go e n k (cases_lt n count);
})
  where
    loose : IsLoose top bottom rs now count
    loose = grind (arith, nat_tests)

    go : rose ≡ false → (n : ℕ) → n < count + 1 → (n < count) ⊎ (count ≤ n) → IsLoose top bottom rs now n
    go e n k (inl l) = h.settled e n l
    go e n k (inr g) = let s : n ≡ count = omega arith in subst (λ (m : ℕ). IsLoose top bottom rs now m) (sym s) loose

-- ---- numbers stay small while the parents close no cycle

-- no cycle of chosen rules
abbrev pub HasNoChosenCycle : List Rule → List (Option ℕ) → Type 0
HasNoChosenCycle rs parents = (cycle : List ℕ) → IsCycle rs cycle → IsKept (is_chosen rs parents) cycle → ⊥

kept_front : (kept : ℕ → Bool) (v w : List ℕ) → IsKept kept (v ++ w) → IsKept kept v
kept_front kept [] w h = tt
kept_front kept (n ∷ v) w h = (h.0, kept_front kept v w h.1)

-- a walk of chosen rules is a path
chosen_path : (rs : List Rule) (parents : List (Option ℕ)) → HasNoChosenCycle rs parents → (a : ℕ) (walk : List ℕ) (b : ℕ) → IsWalk rs a walk b → IsKept (is_chosen rs parents) walk → IsPath rs a walk b
chosen_path rs parents none a [] b h k = empty_path rs a b h
chosen_path rs parents none a (n ∷ w) b h k = go (chosen_path rs parents none (target_of rs n) w b h.2 k.1) (part_at rs (target_of rs n) w b (chosen_path rs parents none (target_of rs n) w b h.2 k.1) a)
  where
    go : IsPath rs (target_of rs n) w b → Misses rs (target_of rs n) w a ⊎ PartedAt rs (target_of rs n) w b a → IsPath rs a (n ∷ w) b
    go p (inl away) = path_cons rs a n w b h.0 h.1 away p
    go p (inr s) = absurd (none (n ∷ s.before) (close rs a n s.before h.0 h.1 s.to_it).0 (k.0, kept_front (is_chosen rs parents) s.before s.after (subst (λ (v : List ℕ). IsKept (is_chosen rs parents) v) s.joined k.1)))

-- a walk of chosen rules to an event, as long as wished or else from an event without a parent
record IsClimb (top bottom events : ℕ) (rs : List Rule) (numbers : List ℕ) (parents : List (Option ℕ)) (count event : ℕ) : Type 0 where
  root : ℕ
  below : root < events
  walk : List ℕ
  is_walk : IsWalk rs root walk event
  chosen : IsKept (is_chosen rs parents) walk
  at_most : number_of numbers event + top * offset_sum rs walk ≤ number_of numbers root + bottom * delay_sum rs walk
  long : (length walk ≡ count) ⊎ (parent_of parents root ≡ None)

longer_climb : (top bottom events : ℕ) (rs : List Rule) (numbers : List ℕ) (parents : List (Option ℕ)) (count event : ℕ) → EndsBelow events rs → IsTree top bottom events rs numbers parents → IsClimb top bottom events rs numbers parents count event → IsClimb top bottom events rs numbers parents (count + 1) event
longer_climb top bottom events rs numbers parents count event ends t c = go (parent_of parents c.root) refl c.long
  where
    stay : parent_of parents c.root ≡ None → IsClimb top bottom events rs numbers parents (count + 1) event
    stay e = record { root = c.root; below = c.below; walk = c.walk; is_walk = c.is_walk; chosen = c.chosen; at_most = c.at_most; long = inr e }

    go : (p : Option ℕ) → parent_of parents c.root ≡ p → (length c.walk ≡ count) ⊎ (parent_of parents c.root ≡ None) → IsClimb top bottom events rs numbers parents (count + 1) event
    go p e (inr none) = stay none
    go None e (inl l) = stay e
    go (Some n) e (inl l) =
        let k : n < length rs = t.inside c.root n e in
        let s : target_of rs n ≡ c.root = t.above c.root n e in
        let q : number_of numbers c.root + top * (rule_at rs n).offset ≤ number_of numbers (source_of rs n) + bottom * (rule_at rs n).delay = t.backed c.root n e in
        let m : number_of numbers event + top * offset_sum rs c.walk ≤ number_of numbers c.root + bottom * delay_sum rs c.walk = c.at_most in
        record {
          root = source_of rs n;
          below = (ends n k).0;
          walk = n ∷ c.walk;
          is_walk = (k, refl, subst (λ (v : ℕ). IsWalk rs v c.walk event) (sym s) c.is_walk);
          chosen = (test_from_parent (parent_of parents (target_of rs n)) n (ap (parent_of parents) s ∙ e), c.chosen);
          at_most = omega arith;
          long = inl (omega arith);
        }

climb_of : (top bottom events : ℕ) (rs : List Rule) (numbers : List ℕ) (parents : List (Option ℕ)) → EndsBelow events rs → IsTree top bottom events rs numbers parents → (count event : ℕ) → event < events → IsClimb top bottom events rs numbers parents count event
climb_of top bottom events rs numbers parents ends t zero event k = record { root = event; below = k; walk = []; is_walk = refl; chosen = tt; at_most = omega arith; long = inl refl }
climb_of top bottom events rs numbers parents ends t (suc count) event k = subst (λ (n : ℕ). IsClimb top bottom events rs numbers parents n event) (omega arith) (longer_climb top bottom events rs numbers parents count event ends t (climb_of top bottom events rs numbers parents ends t count event k))

weight_small : (bottom delay count : ℕ) → bottom ≤ 491520 → delay ≤ 1000000 * count → count < 32768 → bottom * delay ≤ 20000000000000000
weight_small bottom delay count b d k =
    let x : delay ≤ 1000000 * 32768 = omega arith in
    let y : bottom * delay ≤ 491520 * (1000000 * 32768) = mul-le bottom delay 491520 (1000000 * 32768) b x in
    omega arith

pub tree_small : (top bottom events : ℕ) (rs : List Rule) (numbers : List ℕ) (parents : List (Option ℕ)) → bottom ≤ 491520 → IsSystem events rs → IsTree top bottom events rs numbers parents → HasNoChosenCycle rs parents → AreAtMost 20000000000000000 numbers
tree_small top bottom events rs numbers parents b sys t none event = go (cases_lt event events)
  where
    from : IsClimb top bottom events rs numbers parents events event → number_of numbers event ≤ 20000000000000000
    from c =
        let path : IsPath rs c.root c.walk event = chosen_path rs parents none c.root c.walk event c.is_walk c.chosen in
        let short : length c.walk < events = path_short rs events (ends_below events rs sys) c.root c.walk event c.below path in
        let few : events ≤ 32768 = sys.0 in
        let w : bottom * delay_sum rs c.walk ≤ 20000000000000000 = weight_small bottom (delay_sum rs c.walk) (length c.walk) b (walk_sums events rs sys c.root c.walk event c.is_walk).0 (omega arith) in
        let m : number_of numbers event + top * offset_sum rs c.walk ≤ number_of numbers c.root + bottom * delay_sum rs c.walk = c.at_most in
        let z : number_of numbers c.root ≡ 0 = t.rooted c.root (rootless short c.long) in
        omega arith
      where
        rootless : length c.walk < events → (length c.walk ≡ events) ⊎ (parent_of parents c.root ≡ None) → parent_of parents c.root ≡ None
        rootless s (inl l) = absurd (omega arith)
        rootless s (inr n) = n

    go : (event < events) ⊎ (events ≤ event) → number_of numbers event ≤ 20000000000000000
    go (inl k) = from (climb_of top bottom events rs numbers parents (ends_below events rs sys) t events event k)
    go (inr k) = rw (get_or_past numbers event 0 (let l : length numbers ≡ events = t.count in omega arith)) (omega arith)

-- ---- the measure

-- numbers within a bound have a sum within as many times the bound
sum_small : (bound : ℕ) (numbers : List ℕ) → AreAtMost bound numbers → sum numbers ≤ length numbers * bound
sum_small bound numbers h = sum_by-le (λ (x : ℕ). x) bound numbers (λ i d k. each i d k)
  where
    each : (i d : ℕ) → i < length numbers → get_or numbers i d ≤ bound
    each i d k = rw (get_or_default numbers i d 0 k) (h i)

-- tests that agree on all rules keep the same walks
kept_same : (rs : List Rule) (f g : ℕ → Bool) → ((n : ℕ) → n < length rs → f n ≡ g n) → (a : ℕ) (walk : List ℕ) (b : ℕ) → IsWalk rs a walk b → IsKept f walk → IsKept g walk
kept_same rs f g h a [] b w k = tt
kept_same rs f g h a (n ∷ walk) b w k = (sym (h n w.0) ∙ k.0, kept_same rs f g h (target_of rs n) walk b w.2 k.1)

pub kept_cycle : (rs : List Rule) (f g : ℕ → Bool) → ((n : ℕ) → n < length rs → f n ≡ g n) → (cycle : List ℕ) → IsCycle rs cycle → IsKept f cycle → IsKept g cycle
kept_cycle rs f g h [] c k = absurd c
kept_cycle rs f g h (n ∷ w) c k = kept_same rs f g h (source_of rs n) (n ∷ w) (source_of rs n) c k

-- the parents close no cycle where their flags keep none
pub none_chosen : (rs : List Rule) (parents : List (Option ℕ)) (chosen : ℕ → Bool) → ((n : ℕ) → n < length rs → chosen n ≡ is_chosen rs parents n) → ((cycle : List ℕ) → IsCycle rs cycle → IsKept chosen cycle → ⊥) → HasNoChosenCycle rs parents
none_chosen rs parents chosen same none cycle c k = none cycle c (kept_cycle rs (is_chosen rs parents) chosen (λ n h. sym (same n h)) cycle c k)

-- the first of the kept cycles has at most as many rules as there are events
pub first_short : (events : ℕ) (rs : List Rule) (kept : ℕ → Bool) (cycle : List ℕ) → EndsBelow events rs → IsFirstCycle rs kept cycle → IsShortCycle events rs cycle
first_short events rs kept [] ends h = absurd h.is_cycle
first_short events rs kept (n ∷ w) ends h = record { is_cycle = h.is_cycle; short = short (h.first (n ∷ p.path) (h.is_cycle.0, refl, p.is_path.0) (h.is_kept.0, p.is_kept)) }
  where
    p : KeptPath rs kept (target_of rs n) w (source_of rs n)
    p = kept_path rs kept (target_of rs n) w (source_of rs n) h.is_cycle.2 h.is_kept.1

    few : length p.path < events
    few = path_short rs events ends (target_of rs n) p.path (source_of rs n) (ends n h.is_cycle.0).1 p.is_path

    short : IsCycleBefore rs (n ∷ w) (n ∷ p.path) → length (n ∷ w) ≤ events
    short (inl l) = absurd (omega arith)
    short (inr (_, inl l)) = let k : length p.path < events = few in omega arith
    short (inr (_, inr e)) = let k : length p.path < events = few in let s : length (n ∷ w) ≡ length (n ∷ p.path) = e.0 in omega arith

-- the chosen cycle gains
pub chosen_gains : (top bottom events : ℕ) (rs : List Rule) (numbers : List ℕ) (parents : List (Option ℕ)) (chosen : ℕ → Bool) (cycle : List ℕ) → ((n : ℕ) → n < length rs → chosen n ≡ is_chosen rs parents n) → IsTree top bottom events rs numbers parents → IsFirstCycle rs chosen cycle → Gains top bottom rs cycle
chosen_gains top bottom events rs numbers parents chosen cycle same t h = t.heavy cycle h.is_cycle (kept_cycle rs chosen (is_chosen rs parents) same cycle h.is_cycle h.is_kept)

-- a greater sum leaves less to rise
pub less_left : (events bound : ℕ) (before now : List ℕ) → length now ≡ events → AreAtMost bound now → sum before < sum now → events * bound - sum now < events * bound - sum before
less_left events bound before now c small rose =
    let s : sum now ≤ length now * bound = sum_small bound now small in
    let m : length now * bound ≡ events * bound = ap (λ (n : ℕ). n * bound) c in
    omega arith

-- flags that keep every rule keep every cycle
pub all_kept : (rs : List Rule) (kept : ℕ → Bool) → ((n : ℕ) → n < length rs → kept n ≡ true) → (cycle : List ℕ) → IsCycle rs cycle → IsKept kept cycle
all_kept rs kept h [] c = absurd c
all_kept rs kept h (n ∷ w) c = each (source_of rs n) (n ∷ w) (source_of rs n) c
  where
    each : (a : ℕ) (walk : List ℕ) (b : ℕ) → IsWalk rs a walk b → IsKept kept walk
    each a [] b k = tt
    each a (m ∷ walk) b k = (h m k.0, each (target_of rs m) walk b k.2)

-- where flags keep all rules of offset 0, and no cycle, each cycle has an offset
pub live_from_flags : (rs : List Rule) (kept : ℕ → Bool) → ((n : ℕ) → n < length rs → (rule_at rs n).offset ≡ 0 → kept n ≡ true) → ((cycle : List ℕ) → IsCycle rs cycle → IsKept kept cycle → ⊥) → IsLive rs
live_from_flags rs kept h none [] c = absurd c
live_from_flags rs kept h none (n ∷ w) c = go (cases_lt 0 (offset_sum rs (n ∷ w)))
  where
    each : (a : ℕ) (walk : List ℕ) (b : ℕ) → IsWalk rs a walk b → offset_sum rs walk ≤ 0 → IsKept kept walk
    each a [] b k z = tt
    each a (m ∷ walk) b k z = (h m k.0 (omega arith), each (target_of rs m) walk b k.2 (omega arith))

    go : (0 < offset_sum rs (n ∷ w)) ⊎ (offset_sum rs (n ∷ w) ≤ 0) → 1 ≤ offset_sum rs (n ∷ w)
    go (inl l) = omega arith
    go (inr z) = absurd (none (n ∷ w) c (each (source_of rs n) (n ∷ w) (source_of rs n) c z))
