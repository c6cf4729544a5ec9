-- An order along the rules of offset 0 shows that each cycle has an offset.
use Rattle.std.proofs.Common.{◌≡◌, ℕ, suc, zero, ◌<◌, ◌≤◌, true, false, cond, eqb, List, [], ◌∷◌, length, get_or, refl, sym, ap, ◌∙◌, arith, ◌⊎◌, inl, inr}
use Rattle.std.specs.List.{IsDistinct, AllByRecursion}
use Rattle.std.proofs.lemmas.Bool.{cases_lt}
use Rattle.std.proofs.lemmas.Bool.Decides.{nat_tests}
use Rattle.rule_system.specs.declared.rules.Rule.{Rule}
use Rattle.rule_system.specs.Rules.{rule_at, source_of, target_of, offset_sum}
use Rattle.rule_system.specs.Walks.{IsLive, IsWalk}
use Rattle.rule_system.specs.Orders.{IsForward, StandsBefore}

abbrev Rises : (ℕ → ℕ) → List Rule → ℕ → Type 0
Rises rank rules n = (rule_at rules n).offset ≡ 0 → rank (source_of rules n) < rank (target_of rules n)

climbs : (rank : ℕ → ℕ) (rules : List Rule) → ((n : ℕ) → n < length rules → Rises rank rules n) → (a : ℕ) (walk : List ℕ) (b : ℕ) → IsWalk rules a walk b → offset_sum rules walk ≡ 0 → rank a ≤ rank b
climbs rank rules rises a [] b h none = let e = ap rank h in omega (arith, e)
climbs rank rules rises a (n ∷ walk) b h none =
    let e = ap rank h.1 in
    let up = rises n h.0 (omega arith) in
    let rest = climbs rank rules rises (target_of rules n) walk b h.2 (omega arith) in
    omega (arith, e, up, rest)

-- where ranks rise along the rules of offset 0, every cycle has an offset
live_by_ranks : (rank : ℕ → ℕ) (rules : List Rule) → ((n : ℕ) → n < length rules → Rises rank rules n) → IsLive rules
live_by_ranks rank rules rises [] h = absurd h
live_by_ranks rank rules rises (n ∷ walk) h = go (cases_lt 0 (offset_sum rules (n ∷ walk)))
  where
    go : (0 < offset_sum rules (n ∷ walk)) ⊎ (offset_sum rules (n ∷ walk) ≤ 0) → 1 ≤ offset_sum rules (n ∷ walk)
    go (inl p) = omega arith
    go (inr z) =
        let up = rises n h.0 (omega arith) in
        let rest = climbs rank rules rises (target_of rules n) walk (source_of rules n) h.2 (omega arith) in
        absurd (omega (arith, up, rest))

-- where a number stands in a list
abbrev rank_in : List ℕ → ℕ → ℕ
rank_in [] e = 0
rank_in (x ∷ xs) e = cond (eqb x e) 0 (suc (rank_in xs e))

apart_at : (x : ℕ) (xs : List ℕ) → AllByRecursion (λ y. eqb x y ≡ false) xs → (i : ℕ) → i < length xs → eqb x (get_or xs i 0) ≡ false
apart_at x [] h i l = absurd (omega arith)
apart_at x (y ∷ xs) h zero l = h.0
apart_at x (y ∷ xs) h (suc i) l = apart_at x xs h.1 i (omega arith)

itself : (x : ℕ) → eqb x x ≡ true
itself x = grind (arith, nat_tests)

rank_at : (xs : List ℕ) → IsDistinct eqb xs → (i : ℕ) → i < length xs → rank_in xs (get_or xs i 0) ≡ i
unfolding IsDistinct
rank_at [] h i l = absurd (omega arith)
rank_at (x ∷ xs) h zero l = rw (itself x) refl
rank_at (x ∷ xs) h (suc i) l = rw (apart_at x xs h.0 i (omega arith)) (ap (λ (k : ℕ). suc k) (rank_at xs h.1 i (omega arith)))

pub live_by_order : (events : ℕ) (rules : List Rule) (order : List ℕ) → IsForward events rules order → IsLive rules
live_by_order events rules order h = live_by_ranks (rank_in order) rules rises
  where
    rises : (n : ℕ) → n < length rules → Rises (rank_in order) rules n
    rises n inside dead =
        let s : StandsBefore order (source_of rules n) (target_of rules n) = h.forward n inside dead in
        let up : s.first < s.second = s.rising in
        let in' : s.second < length order = s.inside in
        let a : rank_in order (source_of rules n) ≡ s.first = ap (rank_in order) (sym s.is_first) ∙ rank_at order h.once s.first (omega arith) in
        let b : rank_in order (target_of rules n) ≡ s.second = ap (rank_in order) (sym s.is_second) ∙ rank_at order h.once s.second s.inside in
        omega arith
