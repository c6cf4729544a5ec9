-- The greatest weight of walks of at most so many rules, one first rule after the other.
use Rattle.std.proofs.Common.{◌≡◌, ℕ, ◌+◌, ◌-◌, ◌*◌, ◌<◌, ◌≤◌, ℤ, pos, ◌+ℤ◌, ◌≤ℤ◌, ◌<ℤ◌, Option, Some, None, List, [], ◌∷◌, ◌++◌, length, refl, sym, subst, ◌∙◌, arith, length-append, ◌⊎◌, inl, inr}
use Rattle.std.specs.Prelude.{⊤}
use Rattle.std.specs.Int.{int_max}
use Rattle.std.proofs.lemmas.Bool.{cases_lt}
use Rattle.std.proofs.lemmas.Int.{ints, clamps, by_lt_z}
use Rattle.std.proofs.lemmas.List.{get_or_append_left}
use Rattle.std.proofs.Math.Seq.{get_or-append_seam}
use Rattle.rule_system.specs.declared.rules.Rule.{Rule}
use Rattle.rule_system.specs.Rules.{rule_at, source_of, target_of}
use Rattle.rule_system.specs.Walks.{IsWalk, EndsBelow, Reaches}
use Rattle.rule_system.specs.Weights.{weight, rule_weight, time_of, HasNoGain, IsArrival, ShortWalkAtLeast}
use Rattle.rule_system.specs.Plain.{IsShortWalk, IsGreatestWeight, IsGreatest, IsWithin, greater_of, after_rule}
use Rattle.rule_system.proofs.Weights.{weight-cons}
use Rattle.rule_system.proofs.Erase.{short_walk}

-- the walk is empty, or starts with a rule below a number
abbrev pub Begins : ℕ → List ℕ → Type 0
Begins heads [] = ⊤
Begins heads (n ∷ w) = n < heads

-- the greatest weight of the walks that begin so
abbrev pub IsGreatestOf : ℕ → ℕ → List Rule → ℕ → ℕ → ℕ → ℕ → Option ℤ → Type 0
IsGreatestOf top bottom rs left a b heads None = (walk : List ℕ) → IsShortWalk rs left a walk b → Begins heads walk → ⊥
IsGreatestOf top bottom rs left a b heads (Some time) =
    ((walk : List ℕ) × IsShortWalk rs left a walk b × Begins heads walk × (weight top bottom rs walk ≡ time))
    × ((walk : List ℕ) → IsShortWalk rs left a walk b → Begins heads walk → weight top bottom rs walk ≤ℤ time)

pub begins_same : (top bottom : ℕ) (rs : List Rule) (left a b : ℕ) → a ≡ b → IsGreatestOf top bottom rs left a b 0 (Some (pos 0))
begins_same top bottom rs left a b e = (([], record { is_walk = e; is_short = omega arith }, tt, omega (arith, ints)), all)
  where
    all : (walk : List ℕ) → IsShortWalk rs left a walk b → Begins 0 walk → weight top bottom rs walk ≤ℤ pos 0
    all [] h k = omega (arith, ints)
    all (n ∷ w) h k = absurd (omega arith)

pub begins_apart : (top bottom : ℕ) (rs : List Rule) (left a b : ℕ) → (a ≡ b → ⊥) → IsGreatestOf top bottom rs left a b 0 None
begins_apart top bottom rs left a b d [] h k = d h.is_walk
begins_apart top bottom rs left a b d (n ∷ w) h k = absurd (omega arith)

-- a rule that does not start there begins no walk
pub passed_over : (top bottom : ℕ) (rs : List Rule) (left a b i : ℕ) (best : Option ℤ) → (source_of rs i ≡ a → ⊥) → IsGreatestOf top bottom rs left a b i best → IsGreatestOf top bottom rs left a b (i + 1) best
passed_over top bottom rs left a b i None d h = none
  where
    none : (walk : List ℕ) → IsShortWalk rs left a walk b → Begins (i + 1) walk → ⊥
    none [] w k = h [] w tt
    none (n ∷ v) w k = go (cases_lt n i)
      where
        go : (n < i) ⊎ (i ≤ n) → ⊥
        go (inl l) = h (n ∷ v) w l
        go (inr l) = let e : n ≡ i = omega arith in d (subst (λ (m : ℕ). source_of rs m ≡ a) e w.is_walk.1)
passed_over top bottom rs left a b i (Some time) d h = ((h.0.0, h.0.1, wider h.0.0 h.0.2, h.0.3), all)
  where
    wider : (w : List ℕ) → Begins i w → Begins (i + 1) w
    wider [] k = tt
    wider (n ∷ w) k = omega arith

    all : (walk : List ℕ) → IsShortWalk rs left a walk b → Begins (i + 1) walk → weight top bottom rs walk ≤ℤ time
    all [] w k = h.1 [] w tt
    all (n ∷ v) w k = go (cases_lt n i)
      where
        go : (n < i) ⊎ (i ≤ n) → weight top bottom rs (n ∷ v) ≤ℤ time
        go (inl l) = h.1 (n ∷ v) w l
        go (inr l) = let e : n ≡ i = omega arith in absurd (d (subst (λ (m : ℕ). source_of rs m ≡ a) e w.is_walk.1))

-- the walks that begin with one rule
abbrev StartsWith : ℕ → List ℕ → Type 0
StartsWith i [] = ⊥
StartsWith i (n ∷ w) = n ≡ i

abbrev IsGreatestWith : ℕ → ℕ → List Rule → ℕ → ℕ → ℕ → ℕ → Option ℤ → Type 0
IsGreatestWith top bottom rs left a b i None = (walk : List ℕ) → IsShortWalk rs left a walk b → StartsWith i walk → ⊥
IsGreatestWith top bottom rs left a b i (Some time) =
    ((walk : List ℕ) × IsShortWalk rs left a walk b × StartsWith i walk × (weight top bottom rs walk ≡ time))
    × ((walk : List ℕ) → IsShortWalk rs left a walk b → StartsWith i walk → weight top bottom rs walk ≤ℤ time)

tail_of : (rs : List Rule) (left a b n i : ℕ) (v : List ℕ) → IsShortWalk rs left a (n ∷ v) b → n ≡ i → IsShortWalk rs (left - 1) (target_of rs i) v b
tail_of rs left a b n i v h e = record { is_walk = subst (λ (m : ℕ). IsWalk rs (target_of rs m) v b) e h.is_walk.2; is_short = let l : length (n ∷ v) ≤ left = h.is_short in omega arith }

with_first : (top bottom : ℕ) (rs : List Rule) (left a b i : ℕ) (rest : Option ℤ) → 1 ≤ left → i < length rs → source_of rs i ≡ a → IsGreatest top bottom rs (left - 1) (target_of rs i) b rest → IsGreatestWith top bottom rs left a b i (after_rule (rule_weight top bottom (rule_at rs i)) rest)
with_first top bottom rs left a b i None p inside from h = none
  where
    none : (walk : List ℕ) → IsShortWalk rs left a walk b → StartsWith i walk → ⊥
    none [] w k = k
    none (n ∷ v) w k = h v (tail_of rs left a b n i v w k)
with_first top bottom rs left a b i (Some rest) p inside from h = ((i ∷ h.walk, longer, refl, sums), all)
  where
    longer : IsShortWalk rs left a (i ∷ h.walk) b
    longer = record { is_walk = (inside, from, h.is_walk.is_walk); is_short = let l : length h.walk ≤ left - 1 = h.is_walk.is_short in omega arith }

    sums : weight top bottom rs (i ∷ h.walk) ≡ rule_weight top bottom (rule_at rs i) +ℤ rest
    sums =
        let e : weight top bottom rs (i ∷ h.walk) ≡ rule_weight top bottom (rule_at rs i) +ℤ weight top bottom rs h.walk = weight-cons top bottom rs i h.walk in
        let f : weight top bottom rs h.walk ≡ rest = h.attained in
        omega (arith, ints)

    at_most : (v : List ℕ) → IsShortWalk rs (left - 1) (target_of rs i) v b → weight top bottom rs (i ∷ v) ≤ℤ (rule_weight top bottom (rule_at rs i) +ℤ rest)
    at_most v w =
        let e : weight top bottom rs (i ∷ v) ≡ rule_weight top bottom (rule_at rs i) +ℤ weight top bottom rs v = weight-cons top bottom rs i v in
        let f : weight top bottom rs v ≤ℤ rest = h.greatest v w in
        omega (arith, ints)

    all : (walk : List ℕ) → IsShortWalk rs left a walk b → StartsWith i walk → weight top bottom rs walk ≤ℤ (rule_weight top bottom (rule_at rs i) +ℤ rest)
    all [] w k = absurd k
    all (n ∷ v) w k = subst (λ (m : ℕ). weight top bottom rs (m ∷ v) ≤ℤ (rule_weight top bottom (rule_at rs i) +ℤ rest)) (sym k) (at_most v (tail_of rs left a b n i v w k))

parts : (i : ℕ) (w : List ℕ) → Begins (i + 1) w → Begins i w ⊎ StartsWith i w
parts i [] h = inl tt
parts i (n ∷ w) h = go (cases_lt n i)
  where
    go : (n < i) ⊎ (i ≤ n) → Begins i (n ∷ w) ⊎ StartsWith i (n ∷ w)
    go (inl l) = inl l
    go (inr l) = inr (omega arith)

low : (i : ℕ) (w : List ℕ) → Begins i w → Begins (i + 1) w
low i [] h = tt
low i (n ∷ w) h = omega arith

last : (i : ℕ) (w : List ℕ) → StartsWith i w → Begins (i + 1) w
last i [] h = tt
last i (n ∷ w) h = omega arith

both : (top bottom : ℕ) (rs : List Rule) (left a b i : ℕ) (old new : Option ℤ) → IsGreatestOf top bottom rs left a b i old → IsGreatestWith top bottom rs left a b i new → IsGreatestOf top bottom rs left a b (i + 1) (greater_of old new)
both top bottom rs left a b i None None h k = λ walk w begins. go walk w (parts i walk begins)
  where
    go : (walk : List ℕ) → IsShortWalk rs left a walk b → Begins i walk ⊎ StartsWith i walk → ⊥
    go walk w (inl p) = h walk w p
    go walk w (inr p) = k walk w p
both top bottom rs left a b i None (Some y) h k = ((k.0.0, k.0.1, last i k.0.0 k.0.2, k.0.3), λ walk w begins. go walk w (parts i walk begins))
  where
    go : (walk : List ℕ) → IsShortWalk rs left a walk b → Begins i walk ⊎ StartsWith i walk → weight top bottom rs walk ≤ℤ y
    go walk w (inl p) = absurd (h walk w p)
    go walk w (inr p) = k.1 walk w p
both top bottom rs left a b i (Some x) None h k = ((h.0.0, h.0.1, low i h.0.0 h.0.2, h.0.3), λ walk w begins. go walk w (parts i walk begins))
  where
    go : (walk : List ℕ) → IsShortWalk rs left a walk b → Begins i walk ⊎ StartsWith i walk → weight top bottom rs walk ≤ℤ x
    go walk w (inl p) = h.1 walk w p
    go walk w (inr p) = absurd (k walk w p)
both top bottom rs left a b i (Some x) (Some y) h k = (pick (at_top x y), λ walk w begins. go walk w (parts i walk begins))
  where
    at_top : (x y : ℤ) → (int_max x y ≡ x) ⊎ (int_max x y ≡ y)
    at_top x y = by_lt_z x y (λ (l : x <ℤ y). inr (omega (arith, ints, clamps))) (λ (l : y ≤ℤ x). inl (omega (arith, ints, clamps)))

    pick : (int_max x y ≡ x) ⊎ (int_max x y ≡ y) → (walk : List ℕ) × IsShortWalk rs left a walk b × Begins (i + 1) walk × (weight top bottom rs walk ≡ int_max x y)
    pick (inl e) = (h.0.0, h.0.1, low i h.0.0 h.0.2, h.0.3 ∙ sym e)
    pick (inr e) = (k.0.0, k.0.1, last i k.0.0 k.0.2, k.0.3 ∙ sym e)

    go : (walk : List ℕ) → IsShortWalk rs left a walk b → Begins i walk ⊎ StartsWith i walk → weight top bottom rs walk ≤ℤ int_max x y
    go walk w (inl p) = let e : weight top bottom rs walk ≤ℤ x = h.1 walk w p in omega (arith, ints, clamps)
    go walk w (inr p) = let e : weight top bottom rs walk ≤ℤ y = k.1 walk w p in omega (arith, ints, clamps)

-- one first rule more
pub one_more : (top bottom : ℕ) (rs : List Rule) (left a b i : ℕ) (old rest : Option ℤ) → 1 ≤ left → i < length rs → source_of rs i ≡ a → IsGreatestOf top bottom rs left a b i old → IsGreatest top bottom rs (left - 1) (target_of rs i) b rest → IsGreatestOf top bottom rs left a b (i + 1) (greater_of old (after_rule (rule_weight top bottom (rule_at rs i)) rest))
one_more top bottom rs left a b i old rest p inside from h k = both top bottom rs left a b i old (after_rule (rule_weight top bottom (rule_at rs i)) rest) h (with_first top bottom rs left a b i rest p inside from k)

begins_all : (rs : List Rule) (a b all : ℕ) (w : List ℕ) → IsWalk rs a w b → length rs ≤ all → Begins all w
begins_all rs a b all [] h l = tt
begins_all rs a b all (n ∷ w) h l = let i : n < length rs = h.0 in omega arith

-- all first rules
pub all_heads : (top bottom : ℕ) (rs : List Rule) (left a b all : ℕ) (best : Option ℤ) → length rs ≤ all → IsGreatestOf top bottom rs left a b all best → IsGreatest top bottom rs left a b best
all_heads top bottom rs left a b all None l h = λ walk w. h walk w (begins_all rs a b all walk w.is_walk l)
all_heads top bottom rs left a b all (Some time) l h = record { walk = h.0.0; is_walk = h.0.1; attained = h.0.3; greatest = λ other w. h.1 other w (begins_all rs a b all other w.is_walk l) }

-- no rule is left to begin with
pub no_heads : (top bottom : ℕ) (rs : List Rule) (a b : ℕ) (best : Option ℤ) → IsGreatestOf top bottom rs 0 a b 0 best → IsGreatest top bottom rs 0 a b best
no_heads top bottom rs a b None h = λ walk w. h walk w (only_empty walk w.is_short)
  where
    only_empty : (walk : List ℕ) → length walk ≤ 0 → Begins 0 walk
    only_empty [] l = tt
    only_empty (n ∷ v) l = absurd (omega arith)
no_heads top bottom rs a b (Some time) h = record { walk = h.0.0; is_walk = h.0.1; attained = h.0.3; greatest = λ other w. h.1 other w (only_empty other w.is_short) }
  where
    only_empty : (walk : List ℕ) → length walk ≤ 0 → Begins 0 walk
    only_empty [] l = tt
    only_empty (n ∷ v) l = absurd (omega arith)

-- the greatest weight of all short walks is the arrival
pub is_arrival : (top bottom events : ℕ) (rs : List Rule) (root event : ℕ) (time : ℤ) → EndsBelow events rs → HasNoGain top bottom rs → root < events → IsGreatestWeight top bottom rs events root event time → IsArrival top bottom rs root event time
is_arrival top bottom events rs root event time ends gain k h = record { walk = h.walk; is_walk = h.is_walk.is_walk; attained = h.attained; greatest = all }
  where
    all : (walk : List ℕ) → IsWalk rs root walk event → weight top bottom rs walk ≤ℤ time
    all walk w =
        let s : ShortWalkAtLeast top bottom events rs root walk event = short_walk top bottom events rs ends gain root walk event k w in
        let e : weight top bottom rs walk ≤ℤ weight top bottom rs s.short = s.at_least in
        let f : weight top bottom rs s.short ≤ℤ time = h.greatest s.short (record { is_walk = s.is_walk; is_short = let l : length s.short < events = s.is_short in omega arith }) in
        omega (arith, ints)

-- and there is one where a walk leads
pub some_arrival : (top bottom events : ℕ) (rs : List Rule) (root event : ℕ) (found : Option ℤ) (time : ℤ) → found ≡ None → EndsBelow events rs → HasNoGain top bottom rs → root < events → Reaches rs root event → IsGreatest top bottom rs events root event found → IsArrival top bottom rs root event time
some_arrival top bottom events rs root event found time none ends gain k r h = absurd (never (subst (λ (f : Option ℤ). IsGreatest top bottom rs events root event f) none h))
  where
    never : ((walk : List ℕ) → IsShortWalk rs events root walk event → ⊥) → ⊥
    never f =
        let s : ShortWalkAtLeast top bottom events rs root r.0 event = short_walk top bottom events rs ends gain root r.0 event k r.1 in
        f s.short (record { is_walk = s.is_walk; is_short = let l : length s.short < events = s.is_short in omega arith })

-- ---- weights stay within the greatest of a rule, times the number of rules

pub within_wider : (few many : ℕ) (rest : Option ℤ) → few ≤ many → IsWithin few rest → IsWithin many rest
within_wider few many None l h = tt
within_wider few many (Some time) l h =
    let low : pos 0 ≤ℤ (time +ℤ pos (491520000000 * few)) = h.0 in
    let high : time ≤ℤ pos (491520000000 * few) = h.1 in
    (omega (arith, ints), omega (arith, ints))

within_after : (left : ℕ) (first : ℤ) (rest : Option ℤ) → 1 ≤ left → pos 0 ≤ℤ (first +ℤ pos 491520000000) → first ≤ℤ pos 491520000000 → IsWithin (left - 1) rest → IsWithin left (after_rule first rest)
within_after left first None p l m h = tt
within_after left first (Some time) p l m h =
    let low : pos 0 ≤ℤ (time +ℤ pos (491520000000 * (left - 1))) = h.0 in
    let high : time ≤ℤ pos (491520000000 * (left - 1)) = h.1 in
    (omega (arith, ints), omega (arith, ints))

within_greater : (left : ℕ) (old new : Option ℤ) → IsWithin left old → IsWithin left new → IsWithin left (greater_of old new)
within_greater left None new h k = k
within_greater left (Some x) None h k = h
within_greater left (Some x) (Some y) h k =
    let a : pos 0 ≤ℤ (x +ℤ pos (491520000000 * left)) = h.0 in
    let b : x ≤ℤ pos (491520000000 * left) = h.1 in
    let c : pos 0 ≤ℤ (y +ℤ pos (491520000000 * left)) = k.0 in
    let d : y ≤ℤ pos (491520000000 * left) = k.1 in
    (omega (arith, ints, clamps), omega (arith, ints, clamps))

pub within_more : (left : ℕ) (first : ℤ) (old rest : Option ℤ) → 1 ≤ left → pos 0 ≤ℤ (first +ℤ pos 491520000000) → first ≤ℤ pos 491520000000 → IsWithin left old → IsWithin (left - 1) rest → IsWithin left (greater_of old (after_rule first rest))
within_more left first old rest p l m h k = within_greater left old (after_rule first rest) h (within_after left first rest p l m k)

-- ---- arrivals listed one after the other

abbrev pub AreFirstArrivals : ℕ → ℕ → List Rule → ℕ → ℕ → List ℤ → Type 0
AreFirstArrivals top bottom rs root count times =
    (length times ≡ count) × ((event : ℕ) → event < count → IsArrival top bottom rs root event (time_of times event))

pub next_arrival : (top bottom : ℕ) (rs : List Rule) (root count : ℕ) (before after : List ℤ) (time : ℤ) → after ≡ before ++ time ∷ [] → AreFirstArrivals top bottom rs root count before → IsArrival top bottom rs root count time → AreFirstArrivals top bottom rs root (count + 1) after
next_arrival top bottom rs root count before after time e h k = (rw e (omega (arith, length-append before (time ∷ []), h.0)), λ event l. go event l (cases_lt event count))
  where
    old : (event : ℕ) → event < count → time_of after event ≡ time_of before event
    old event l = rw e (get_or_append_left before (time ∷ []) (pos 0) event (let f : length before ≡ count = h.0 in omega arith))

    new : time_of after count ≡ time
    new = rw (e, ← h.0) (get_or-append_seam before time [] (pos 0))

    go : (event : ℕ) → event < count + 1 → (event < count) ⊎ (count ≤ event) → IsArrival top bottom rs root event (time_of after event)
    go event l (inl m) = subst (λ (t : ℤ). IsArrival top bottom rs root event t) (sym (old event m)) (h.1 event m)
    go event l (inr m) =
        let same : count ≡ event = omega arith in
        subst (λ (n : ℕ). IsArrival top bottom rs root n (time_of after n)) same (subst (λ (t : ℤ). IsArrival top bottom rs root count t) (sym new) k)
