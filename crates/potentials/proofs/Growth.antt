-- Paths that grow by a rule, and events reached by them.
use Rattle.std.proofs.Common.{◌≡◌, ◌≢◌, ℕ, ◌+◌, ◌*◌, ◌<◌, ◌≤◌, ℤ, pos, ◌+ℤ◌, Bool, true, false, true≢false, List, [], ◌∷◌, ◌++◌, length, map, set, get_or, replicate, eqb, ◌⊎◌, inl, inr, refl, sym, ap, subst, ◌∙◌, arith, length-append, All}
use Rattle.std.specs.List.{AllByRecursion}
use Rattle.std.proofs.lemmas.Bool.{cases_eq, cases_lt}
use Rattle.std.proofs.lemmas.Bool.Decides.{nat_tests}
use Rattle.std.proofs.lemmas.Int.{ints}
use Rattle.std.proofs.lemmas.Nat.{mul-le}
use Rattle.std.proofs.lemmas.List.{get_or-set_same, get_or-set_other, length-set, get_or_past, length-replicate, get_or-replicate, get_or_default}
use Rattle.rule_system.specs.declared.rules.Rule.{Rule}
use Rattle.rule_system.specs.Rules.{rule_at, source_of, target_of, delay_sum, offset_sum}
use Rattle.rule_system.specs.Walks.{IsWalk, IsPath, events_of, EndsBelow, Reaches}
use Rattle.rule_system.specs.Bounds.{IsSystem}
use Rattle.rule_system.specs.Weights.{weight, rule_weight, time_of, HasNoGain, AreAttained, ShortWalkAtLeast}
use Rattle.rule_system.proofs.Paths.{path_tail, path_cons, path_misses, empty_path, path_short, ends_apart, Misses}
use Rattle.rule_system.proofs.Sums.{walk_sums, ends_below}
use Rattle.rule_system.proofs.Arrivals.{push_weight}
use Rattle.rule_system.proofs.Erase.{short_walk}
use Rattle.cyc_num.specs.Within.{LiesWithin}
use Rattle.potentials.specs.Times.{IsPathWeight, ArePathWeights, AllReachable}
use Rattle.potentials.specs.Trees.{IsReached, ReachedPath, IsTree, StaysReached, ReachesAll}

weaken : (P Q : ℕ → Type 0) (xs : List ℕ) → ((x : ℕ) → P x → Q x) → AllByRecursion P xs → AllByRecursion Q xs
weaken P Q [] f h = tt
weaken P Q (x ∷ xs) f h = (f x h.0, weaken P Q xs f h.1)

all_snoc : (P : ℕ → Type 0) (f : ℕ → ℕ) (w : List ℕ) (n : ℕ) → AllByRecursion P (map f w) → P (f n) → AllByRecursion P (map f (w ++ n ∷ []))
all_snoc P f [] n h k = (k, tt)
all_snoc P f (m ∷ w) n h k = (h.0, all_snoc P f w n h.1 k)

-- a path with a rule at its end that leads to an event elsewhere
path_snoc : (rs : List Rule) (a : ℕ) (w : List ℕ) (b n : ℕ) → IsPath rs a w b → n < length rs → source_of rs n ≡ b → AllByRecursion (λ y. eqb y (target_of rs n) ≡ false) (events_of rs a w) → IsPath rs a (w ++ n ∷ []) (target_of rs n)
path_snoc rs a [] b n h inside from fresh = path_cons rs a n [] (target_of rs n) inside (from ∙ sym h.0) (fresh.0, tt) (empty_path rs (target_of rs n) (target_of rs n) refl)
path_snoc rs a (m ∷ w) b n h inside from fresh =
    let away : Misses rs (target_of rs m) w a = path_misses rs a m w b h in
    path_cons rs a m (w ++ n ∷ []) (target_of rs n) h.0.0 h.0.1 (away.0, all_snoc (λ y. eqb a y ≡ false) (target_of rs) w n away.1 fresh.0) (path_snoc rs (target_of rs m) w b n (path_tail rs a m w b h) inside from fresh.1)

apart : (reached : List Bool) (target y : ℕ) → get_or reached target false ≡ false → IsReached reached y → eqb y target ≡ false
apart reached target y h k = go (cases_eq y target)
  where
    go : (y ≡ target) ⊎ (y ≢ target) → eqb y target ≡ false
    go (inl e) = absurd (true≢false (sym k ∙ ap (λ n. get_or reached n false) e ∙ h))
    go (inr d) = grind (arith, nat_tests)

-- ---- how large the weight of a path is

weight_bound : (bottom sum count limit each : ℕ) → bottom ≤ limit → sum ≤ each * count → count < 32768 → limit * (each * 32767) ≤ 17000000000000000 → bottom * sum ≤ 17000000000000000
weight_bound bottom sum count limit each b s k l =
    let m : each * count ≤ each * 32767 = mul-le each count each 32767 (omega arith) (omega arith) in
    let x : bottom * sum ≤ limit * (each * 32767) = mul-le bottom sum limit (each * 32767) b (omega arith) in
    omega arith

pub path_within : (top bottom events : ℕ) (rs : List Rule) (a : ℕ) (w : List ℕ) (b : ℕ) → top ≤ 32768000000 → bottom ≤ 491520 → IsSystem events rs → a < events → IsPath rs a w b → LiesWithin 17000000000000000 (weight top bottom rs w)
path_within top bottom events rs a w b t u sys k h =
    let few : events ≤ 32768 = sys.0 in
    let l : length w < events = path_short rs events (ends_below events rs sys) a w b k h in
    let sums : (delay_sum rs w ≤ 1000000 * length w) × (offset_sum rs w ≤ 15 * length w) = walk_sums events rs sys a w b h.0 in
    let x : bottom * delay_sum rs w ≤ 17000000000000000 = weight_bound bottom (delay_sum rs w) (length w) 491520 1000000 u sums.0 (omega arith) (omega arith) in
    let y : top * offset_sum rs w ≤ 17000000000000000 = weight_bound top (offset_sum rs w) (length w) 32768000000 15 t sums.1 (omega arith) (omega arith) in
    (omega (arith, ints), omega (arith, ints))

-- ---- one more event

inside_reached : (reached : List Bool) (event : ℕ) → IsReached reached event → event < length reached
inside_reached reached event h = go (cases_lt event (length reached))
  where
    go : (event < length reached) ⊎ (length reached ≤ event) → event < length reached
    go (inl k) = k
    go (inr k) = absurd (true≢false (sym h ∙ get_or_past reached event false k))

pub stays : (reached : List Bool) (event : ℕ) → event < length reached → StaysReached reached (set reached event true)
stays reached event h y k = go (cases_eq y event)
  where
    go : (y ≡ event) ⊎ (y ≢ event) → IsReached (set reached event true) y
    go (inl e) = rw e (get_or-set_same reached event true false h)
    go (inr d) = get_or-set_other reached event y true false d ∙ k

pub tree_more : (top bottom events : ℕ) (rs : List Rule) (root n : ℕ) (times : List ℤ) (reached : List Bool) → n < length rs → target_of rs n < events → IsTree top bottom events rs root times reached → IsReached reached (source_of rs n) → get_or reached (target_of rs n) false ≡ false → IsTree top bottom events rs root (set times (target_of rs n) (time_of times (source_of rs n) +ℤ rule_weight top bottom (rule_at rs n))) (set reached (target_of rs n) true)
tree_more top bottom events rs root n times reached inside end h from fresh = record {
  times_count = length-set times (target_of rs n) (time_of times (source_of rs n) +ℤ rule_weight top bottom (rule_at rs n)) ∙ h.times_count;
  reached_count = length-set reached (target_of rs n) true ∙ h.reached_count;
  root_reached = kept root h.root_reached;
  paths = λ event k. go event k (cases_eq event (target_of rs n));
}
  where
    in_reached : target_of rs n < length reached
    in_reached = let e : length reached ≡ events = h.reached_count in omega arith

    in_times : target_of rs n < length times
    in_times = let e : length times ≡ events = h.times_count in omega arith

    kept : StaysReached reached (set reached (target_of rs n) true)
    kept = stays reached (target_of rs n) in_reached

    now : List ℤ
    now = set times (target_of rs n) (time_of times (source_of rs n) +ℤ rule_weight top bottom (rule_at rs n))

    old : (event : ℕ) → event ≢ target_of rs n → IsReached (set reached (target_of rs n) true) event → ReachedPath top bottom rs root (set reached (target_of rs n) true) event (time_of times event)
    old event d k =
        let p : ReachedPath top bottom rs root reached event (time_of times event) = h.paths event (sym (get_or-set_other reached (target_of rs n) event true false d) ∙ k) in
        record { path = p.path; is_path = p.is_path; over = weaken (IsReached reached) (IsReached (set reached (target_of rs n) true)) (events_of rs root p.path) kept p.over; attained = p.attained }

    new : ReachedPath top bottom rs root (set reached (target_of rs n) true) (target_of rs n) (time_of times (source_of rs n) +ℤ rule_weight top bottom (rule_at rs n))
    new =
        let p : ReachedPath top bottom rs root reached (source_of rs n) (time_of times (source_of rs n)) = h.paths (source_of rs n) from in
        let o : AllByRecursion (IsReached (set reached (target_of rs n) true)) (events_of rs root p.path) = weaken (IsReached reached) (IsReached (set reached (target_of rs n) true)) (events_of rs root p.path) kept p.over in
        record {
          path = p.path ++ n ∷ [];
          is_path = path_snoc rs root p.path (source_of rs n) n p.is_path inside refl (weaken (IsReached reached) (λ y. eqb y (target_of rs n) ≡ false) (events_of rs root p.path) (λ y. apart reached (target_of rs n) y fresh) p.over);
          over = (o.0, all_snoc (IsReached (set reached (target_of rs n) true)) (target_of rs) p.path n o.1 (get_or-set_same reached (target_of rs n) true false in_reached));
          attained = push_weight top bottom rs p.path n ∙ ap (λ (t : ℤ). t +ℤ rule_weight top bottom (rule_at rs n)) p.attained;
        }

    go : (event : ℕ) → IsReached (set reached (target_of rs n) true) event → (event ≡ target_of rs n) ⊎ (event ≢ target_of rs n) → ReachedPath top bottom rs root (set reached (target_of rs n) true) event (time_of (set times (target_of rs n) (time_of times (source_of rs n) +ℤ rule_weight top bottom (rule_at rs n))) event)
    go event k (inl e) =
        subst (λ (v : ℕ). ReachedPath top bottom rs root (set reached (target_of rs n) true) v (time_of (set times (target_of rs n) (time_of times (source_of rs n) +ℤ rule_weight top bottom (rule_at rs n))) v)) (sym e)
        (subst (λ (t : ℤ). ReachedPath top bottom rs root (set reached (target_of rs n) true) (target_of rs n) t) (sym (get_or-set_same times (target_of rs n) (time_of times (source_of rs n) +ℤ rule_weight top bottom (rule_at rs n)) (pos 0) in_times)) new)
    go event k (inr d) =
        subst (λ (t : ℤ). ReachedPath top bottom rs root (set reached (target_of rs n) true) event t) (sym (get_or-set_other times (target_of rs n) event (time_of times (source_of rs n) +ℤ rule_weight top bottom (rule_at rs n)) (pos 0) d)) (old event d k)

-- the numbers of reached events are small
pub reached_within : (top bottom events : ℕ) (rs : List Rule) (root : ℕ) (times : List ℤ) (reached : List Bool) (event : ℕ) → top ≤ 32768000000 → bottom ≤ 491520 → IsSystem events rs → root < events → IsTree top bottom events rs root times reached → IsReached reached event → LiesWithin 17000000000000000 (time_of times event)
reached_within top bottom events rs root times reached event t u sys k h r =
    let p : ReachedPath top bottom rs root reached event (time_of times event) = h.paths event r in
    subst (λ (v : ℤ). LiesWithin 17000000000000000 v) p.attained (path_within top bottom events rs root p.path event t u sys k p.is_path)

pub wider : (time : ℤ) → LiesWithin 17000000000000000 time → LiesWithin 40000000000000000 time
wider time h = (omega (arith, ints), omega (arith, ints))

-- ---- rounds that attach each rule

record PartedLast (rs : List Rule) (a : ℕ) (walk : List ℕ) (b : ℕ) : Type 0 where
  front : List ℕ
  last : ℕ
  joined : walk ≡ front ++ last ∷ []
  to_last : IsWalk rs a front (source_of rs last)
  is_rule : last < length rs
  ends : target_of rs last ≡ b

-- a walk of at least one rule, parted before its last
part_last : (rs : List Rule) (a n : ℕ) (walk : List ℕ) (b : ℕ) → IsWalk rs a (n ∷ walk) b → PartedLast rs a (n ∷ walk) b
part_last rs a n [] b h = record { front = []; last = n; joined = refl; to_last = sym h.1; is_rule = h.0; ends = h.2 }
part_last rs a n (m ∷ walk) b h =
    let p : PartedLast rs (target_of rs n) (m ∷ walk) b = part_last rs (target_of rs n) m walk b h.2 in
    record { front = n ∷ p.front; last = p.last; joined = ap (λ (w : List ℕ). n ∷ w) p.joined; to_last = (h.0, h.1, p.to_last); is_rule = p.is_rule; ends = p.ends }

pub reaches_none : (rs : List Rule) (root : ℕ) (reached : List Bool) → IsReached reached root → ReachesAll rs root 0 reached
reaches_none rs root reached h [] event w k = subst (λ (e : ℕ). IsReached reached e) w h
reaches_none rs root reached h (n ∷ walk) event w k = absurd (omega arith)

pub reaches_more : (rs : List Rule) (root count : ℕ) (before after : List Bool) → ReachesAll rs root count before → StaysReached before after → ((n : ℕ) → n < length rs → IsReached before (source_of rs n) → IsReached after (target_of rs n)) → ReachesAll rs root (count + 1) after
reaches_more rs root count before after h s j [] event w k = s event (h [] event w (omega arith))
reaches_more rs root count before after h s j (n ∷ walk) event w k =
    let p : PartedLast rs root (n ∷ walk) event = part_last rs root n walk event w in
    let fewer : length (n ∷ walk) ≡ length p.front + 1 = ap length p.joined ∙ length-append p.front (p.last ∷ []) in
    subst (λ (e : ℕ). IsReached after e) p.ends (j p.last p.is_rule (h p.front (source_of rs p.last) p.to_last (omega arith)))

nothing_gains : (rs : List Rule) → HasNoGain 0 0 rs
nothing_gains rs cycle h = omega arith

-- walks of fewer rules than events reach whatever walks reach
pub reaches_each : (events : ℕ) (rs : List Rule) (root count : ℕ) (reached : List Bool) → EndsBelow events rs → root < events → events ≤ count + 1 → AllReachable events rs root → ReachesAll rs root count reached → (event : ℕ) → event < events → IsReached reached event
reaches_each events rs root count reached ends k enough all h event e =
    let w : Reaches rs root event = all event e in
    let s : ShortWalkAtLeast 0 0 events rs root w.0 event = short_walk 0 0 events rs ends (nothing_gains rs) root w.0 event k w.1 in
    let l : length s.short < events = s.is_short in
    h s.short event s.is_walk (omega arith)

-- ---- the numbers of a tree that reaches each event

pub whole_tree_weights : (top bottom events : ℕ) (rs : List Rule) (root : ℕ) (times : List ℤ) (reached : List Bool) → IsTree top bottom events rs root times reached → ((event : ℕ) → event < events → IsReached reached event) → ArePathWeights top bottom events rs root times
whole_tree_weights top bottom events rs root times reached h all = (h.times_count, λ event e. one event (h.paths event (all event e)))
  where
    one : (event : ℕ) → ReachedPath top bottom rs root reached event (time_of times event) → IsPathWeight top bottom rs root event (time_of times event)
    one event p = record { path = p.path; is_path = p.is_path; attained = p.attained }

pub weights_attained : (top bottom events : ℕ) (rs : List Rule) (root : ℕ) (times : List ℤ) → ArePathWeights top bottom events rs root times → AreAttained top bottom events rs root times
weights_attained top bottom events rs root times h = (h.0, λ event e. one event (h.1 event e))
  where
    one : (event : ℕ) → IsPathWeight top bottom rs root event (time_of times event) → (walk : List ℕ) × IsWalk rs root walk event × (weight top bottom rs walk ≡ time_of times event)
    one event p = (p.path, p.is_path.0, p.attained)

pub weights_within : (top bottom events : ℕ) (rs : List Rule) (root : ℕ) (times : List ℤ) → top ≤ 32768000000 → bottom ≤ 491520 → IsSystem events rs → root < events → ArePathWeights top bottom events rs root times → (event : ℕ) → LiesWithin 17000000000000000 (time_of times event)
weights_within top bottom events rs root times t u sys k h event = go (cases_lt event events)
  where
    go : (event < events) ⊎ (events ≤ event) → LiesWithin 17000000000000000 (time_of times event)
    go (inl e) = let p : IsPathWeight top bottom rs root event (time_of times event) = h.1 event e in subst (λ (v : ℤ). LiesWithin 17000000000000000 v) p.attained (path_within top bottom events rs root p.path event t u sys k p.is_path)
    go (inr e) = rw (get_or_past times event (pos 0) (let l : length times ≡ events = h.0 in omega arith)) (omega (arith, ints), omega (arith, ints))

-- a path that ends where it starts is empty
closed_path : (rs : List Rule) (a : ℕ) (w : List ℕ) → IsPath rs a w a → w ≡ []
closed_path rs a [] h = refl
closed_path rs a (n ∷ w) h = absurd (ends_apart rs (target_of rs n) w a h.0.2 (path_misses rs a n w a h))

same_everywhere : {X : Type 0} (n i : ℕ) (x : X) → get_or (replicate n x) i x ≡ x
same_everywhere n i x = go (cases_lt i n)
  where
    go : (i < n) ⊎ (n ≤ i) → get_or (replicate n x) i x ≡ x
    go (inl k) = get_or-replicate n i x x k
    go (inr k) = get_or_past (replicate n x) i x (let l : length (replicate n x) ≡ n = length-replicate n x in omega arith)

-- the root's number is that of the walk of no rules
pub root_weight : (top bottom events : ℕ) (rs : List Rule) (root : ℕ) (times : List ℤ) → root < events → ArePathWeights top bottom events rs root times → time_of times root ≡ pos 0
root_weight top bottom events rs root times k h =
    let p : IsPathWeight top bottom rs root root (time_of times root) = h.1 root k in
    sym p.attained ∙ ap (weight top bottom rs) (closed_path rs root p.path p.is_path) ∙ omega (arith, ints)

-- at the start the root alone is reached
pub first_tree : (top bottom events : ℕ) (rs : List Rule) (root : ℕ) → root < events → IsTree top bottom events rs root (replicate events (pos 0)) (set (replicate events false) root true)
first_tree top bottom events rs root k = record {
  times_count = length-replicate events (pos 0);
  reached_count = length-set (replicate events false) root true ∙ length-replicate events false;
  root_reached = here;
  paths = λ event h. go event h (cases_eq event root);
}
  where
    here : IsReached (set (replicate events false) root true) root
    here = get_or-set_same (replicate events false) root true false (let l : length (replicate events false) ≡ events = length-replicate events false in omega arith)

    zeros : (event : ℕ) → time_of (replicate events (pos 0)) event ≡ pos 0
    zeros event = same_everywhere events event (pos 0)

    go : (event : ℕ) → IsReached (set (replicate events false) root true) event → (event ≡ root) ⊎ (event ≢ root) → ReachedPath top bottom rs root (set (replicate events false) root true) event (time_of (replicate events (pos 0)) event)
    go event h (inl e) = record { path = []; is_path = empty_path rs root event (sym e); over = (here, tt); attained = rw (zeros event) (omega (arith, ints)) }
    go event h (inr d) = absurd (true≢false (sym h ∙ get_or-set_other (replicate events false) root event true false d ∙ same_everywhere events event false))

pub all_within : (bound : ℕ) (times : List ℤ) → ((event : ℕ) → LiesWithin bound (time_of times event)) → All (LiesWithin bound) times
all_within bound times h k d l = subst (λ (v : ℤ). LiesWithin bound v) (get_or_default times k (pos 0) d l) (h k)

-- the same, of a number that is only known to be the offer
pub tree_put : (top bottom events : ℕ) (rs : List Rule) (root n : ℕ) (times : List ℤ) (reached : List Bool) (offer : ℤ) → offer ≡ time_of times (source_of rs n) +ℤ rule_weight top bottom (rule_at rs n) → n < length rs → target_of rs n < events → IsTree top bottom events rs root times reached → IsReached reached (source_of rs n) → get_or reached (target_of rs n) false ≡ false → IsTree top bottom events rs root (set times (target_of rs n) offer) (set reached (target_of rs n) true)
tree_put top bottom events rs root n times reached offer e inside end h from fresh =
    subst (λ (t : ℤ). IsTree top bottom events rs root (set times (target_of rs n) t) (set reached (target_of rs n) true)) (sym e) (tree_more top bottom events rs root n times reached inside end h from fresh)

pub weights_all_within : (top bottom events : ℕ) (rs : List Rule) (root : ℕ) (times : List ℤ) → top ≤ 32768000000 → bottom ≤ 491520 → IsSystem events rs → root < events → ArePathWeights top bottom events rs root times → All (LiesWithin 17000000000000000) times
weights_all_within top bottom events rs root times t u sys k h = all_within 17000000000000000 times (weights_within top bottom events rs root times t u sys k h)
