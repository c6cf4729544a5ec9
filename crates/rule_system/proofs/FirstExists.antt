-- Where there is a cycle of kept rules, one of them is the first.
use Rattle.std.proofs.Common.{◌≡◌, ℕ, ◌*◌, ◌<◌, ◌≤◌, Bool, List, [], ◌∷◌, length, ◌⊎◌, inl, inr, refl, sym, arith}
use Rattle.std.proofs.lemmas.Bool.{cases_lt}
use Rattle.rule_system.specs.declared.rules.Rule.{Rule}
use Rattle.rule_system.specs.Bounds.{IsSystem, AreSmallSums}
use Rattle.rule_system.specs.Rules.{source_of, target_of, delay_sum, offset_sum}
use Rattle.rule_system.specs.Walks.{IsCycle, IsKept, EndsBelow, KeptPath}
use Rattle.rule_system.specs.FirstCycle.{IsCycleBefore, IsFirstCycle, start_of}
use Rattle.rule_system.proofs.Firsts.{cycle_either, cycle_through}
use Rattle.rule_system.proofs.Paths.{path_short}
use Rattle.rule_system.proofs.Sums.{ends_below, walk_sums, walk_within}
use Rattle.rule_system.proofs.Erase.{kept_path}
use Rattle.rule_system.proofs.Search.{IsAmong, IsOrder, BestOrNone, search_best, both_tested}
use Rattle.rule_system.proofs.WalkTests.{cycle_tested, kept_tested, cycle_numbers}

abbrev pub IsKeptCycle : List Rule → (ℕ → Bool) → List ℕ → Type 0
IsKeptCycle rs kept w = IsCycle rs w × IsKept kept w

-- a cycle of kept rules, of at most as many rules as there are events, that is not after the other
pub record ShortBefore (rs : List Rule) (kept : ℕ → Bool) (events : ℕ) (other : List ℕ) : Type 0 where
  pub cycle : List ℕ
  pub is_kept : IsKeptCycle rs kept cycle
  pub is_among : IsAmong (length rs) events cycle
  pub starts : start_of rs cycle ≡ start_of rs other
  pub before : IsCycleBefore rs cycle other

pub shorten : (events : ℕ) (rs : List Rule) (kept : ℕ → Bool) → EndsBelow events rs → (other : List ℕ) → IsKeptCycle rs kept other → ShortBefore rs kept events other
shorten events rs kept ends [] h = absurd h.0
shorten events rs kept ends (n ∷ w) h = go (cases_lt events (length (n ∷ w)))
  where
    itself : IsCycleBefore rs (n ∷ w) (n ∷ w) ⊎ IsCycleBefore rs (n ∷ w) (n ∷ w) → IsCycleBefore rs (n ∷ w) (n ∷ w)
    itself (inl b) = b
    itself (inr b) = b

    path : KeptPath rs kept (target_of rs n) w (source_of rs n)
    path = kept_path rs kept (target_of rs n) w (source_of rs n) h.0.2 h.1.1

    few : length path.path < events
    few = path_short rs events ends (target_of rs n) path.path (source_of rs n) (ends n h.0.0).1 path.is_path

    go : (events < length (n ∷ w)) ⊎ (length (n ∷ w) ≤ events) → ShortBefore rs kept events (n ∷ w)
    go (inr short) = record { cycle = n ∷ w; is_kept = h; is_among = (short, cycle_numbers rs (n ∷ w) h.0); starts = refl; before = itself (cycle_either rs (n ∷ w) (n ∷ w)) }
    go (inl long) = record {
      cycle = n ∷ path.path;
      is_kept = ((h.0.0, refl, path.is_path.0), (h.1.0, path.is_kept));
      is_among = (let f : length path.path < events = few in omega arith, cycle_numbers rs (n ∷ path.path) (h.0.0, refl, path.is_path.0));
      starts = refl;
      before = inr (refl, inl (let f : length path.path < events = few in omega arith));
    }

pub first_exists : (events : ℕ) (rs : List Rule) (kept : ℕ → Bool) → EndsBelow events rs → (cycle : List ℕ) → IsCycle rs cycle → IsKept kept cycle → (first : List ℕ) × IsFirstCycle rs kept first
first_exists events rs kept ends cycle c k = go (search_best (length rs) events (λ v w. IsCycleBefore rs w v) (IsKeptCycle rs kept) order (λ w. both_tested (cycle_tested rs w) (kept_tested kept w)))
  where
    order : IsOrder (λ v w. IsCycleBefore rs w v) (IsKeptCycle rs kept)
    order = record { either = λ v w p q. cycle_either rs w v; through = λ u v w p q r h k. cycle_through rs w v u k h }

    go : BestOrNone (λ v w. IsCycleBefore rs w v) (λ w. IsAmong (length rs) events w × IsKeptCycle rs kept w) → (first : List ℕ) × IsFirstCycle rs kept first
    go (inr none) = let s : ShortBefore rs kept events cycle = shorten events rs kept ends cycle (c, k) in absurd (none s.cycle (s.is_among, s.is_kept))
    go (inl b) = (b.list, record { is_cycle = b.passes.1.0; is_kept = b.passes.1.1; first = all })
      where
        all : (other : List ℕ) → IsCycle rs other → IsKept kept other → IsCycleBefore rs b.list other
        all other p q =
            let s : ShortBefore rs kept events other = shorten events rs kept ends other (p, q) in
            cycle_through rs b.list s.cycle other (b.best s.cycle (s.is_among, s.is_kept)) s.before

not_longer : (rs : List Rule) (c d : List ℕ) → start_of rs c ≡ start_of rs d → IsCycleBefore rs c d → length c ≤ length d
not_longer rs c d e (inl h) = absurd (omega arith)
not_longer rs c d e (inr (f, inl h)) = omega arith
not_longer rs c d e (inr (f, inr h)) = let g : length c ≡ length d = h.0 in omega arith

-- the first cycle has at most as many rules as there are events
first_short : (events : ℕ) (rs : List Rule) (kept : ℕ → Bool) → EndsBelow events rs → (cycle : List ℕ) → IsFirstCycle rs kept cycle → length cycle ≤ events
first_short events rs kept ends cycle h =
    let s : ShortBefore rs kept events cycle = shorten events rs kept ends cycle (h.is_cycle, h.is_kept) in
    let m : length cycle ≤ length s.cycle = not_longer rs cycle s.cycle (sym s.starts) (h.first s.cycle s.is_kept.0 s.is_kept.1) in
    let a : length s.cycle ≤ events = s.is_among.0 in
    omega arith

pub first_sums : (events : ℕ) (rs : List Rule) (kept : ℕ → Bool) → IsSystem events rs → (cycle : List ℕ) → IsFirstCycle rs kept cycle → AreSmallSums rs cycle
first_sums events rs kept h [] c = absurd c.is_cycle
first_sums events rs kept h (n ∷ w) c =
    let short : length (n ∷ w) ≤ events = first_short events rs kept (ends_below events rs h) (n ∷ w) c in
    let few : events ≤ 32768 = h.0 in
    let sums : (delay_sum rs (n ∷ w) ≤ 1000000 * length (n ∷ w)) × (offset_sum rs (n ∷ w) ≤ 15 * length (n ∷ w)) = walk_sums events rs h (source_of rs n) (n ∷ w) (source_of rs n) c.is_cycle in
    record { within = walk_within rs (source_of rs n) (n ∷ w) (source_of rs n) c.is_cycle; short = omega arith; delay = omega arith; offset = omega arith }
