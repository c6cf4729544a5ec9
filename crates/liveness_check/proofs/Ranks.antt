-- Ranks that rise along rules from the root, or fall along rules to it, show that a system is connected.
use Rattle.std.proofs.Common.{◌≡◌, ℕ, suc, zero, ◌<◌, ◌⊎◌, inl, inr, List, [], ◌∷◌, ◌++◌, refl, sym, arith}
use Rattle.rule_system.specs.declared.rules.Rule.{Rule}
use Rattle.rule_system.specs.Rules.{source_of, target_of}
use Rattle.rule_system.specs.Walks.{EndsBelow, Reaches}
use Rattle.rule_system.proofs.Walks.{walk_join}
use Rattle.liveness_check.specs.Shown.{ComesLower, GoesLower, rank_of}

-- walks lead from the root to each event
pub all_reached : (events root : ℕ) (rules : List Rule) (ranks : List ℕ) → EndsBelow events rules → ((event : ℕ) → event < events → (event ≡ root) ⊎ ComesLower rules ranks event)
    → (event : ℕ) → event < events → Reaches rules root event
all_reached events root rules ranks ends joined event inside = go (suc (rank_of ranks event)) event (omega arith) inside
  where
    step : (k event : ℕ) → rank_of ranks event < suc k → ((e : ℕ) → rank_of ranks e < k → e < events → Reaches rules root e) → (event ≡ root) ⊎ ComesLower rules ranks event → Reaches rules root event
    step k event low before (inl same) = ([], sym same)
    step k event low before (inr c) =
        let lower = c.lower in
        let (walk, is) = before (source_of rules c.number) (omega (arith, low, lower)) (ends c.number c.inside).0 in
        (walk ++ c.number ∷ [], walk_join rules root walk (source_of rules c.number) (c.number ∷ []) event is (c.inside, refl, c.to_it))

    go : (k event : ℕ) → rank_of ranks event < k → event < events → Reaches rules root event
    go zero event low inside = absurd (omega arith)
    go (suc k) event low inside = step k event low (go k) (joined event inside)

-- walks lead from each event to the root
pub all_return : (events root : ℕ) (rules : List Rule) (ranks : List ℕ) → EndsBelow events rules → ((event : ℕ) → event < events → (event ≡ root) ⊎ GoesLower rules ranks event)
    → (event : ℕ) → event < events → Reaches rules event root
all_return events root rules ranks ends joined event inside = go (suc (rank_of ranks event)) event (omega arith) inside
  where
    step : (k event : ℕ) → rank_of ranks event < suc k → ((e : ℕ) → rank_of ranks e < k → e < events → Reaches rules e root) → (event ≡ root) ⊎ GoesLower rules ranks event → Reaches rules event root
    step k event low before (inl same) = ([], same)
    step k event low before (inr c) =
        let lower = c.lower in
        let (walk, is) = before (target_of rules c.number) (omega (arith, low, lower)) (ends c.number c.inside).1 in
        (c.number ∷ walk, (c.inside, c.from_it, is))

    go : (k event : ℕ) → rank_of ranks event < k → event < events → Reaches rules event root
    go zero event low inside = absurd (omega arith)
    go (suc k) event low inside = step k event low (go k) (joined event inside)
