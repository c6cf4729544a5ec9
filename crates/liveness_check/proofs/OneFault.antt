-- At most one fault holds of a system, and none of a connected and live one.
use Rattle.std.proofs.Common.{◌≡◌, ◌≢◌, ℕ, ◌<◌, ◌≤◌, List, ◌⊎◌, inl, inr, refl, ap, arith}
use Rattle.std.proofs.lemmas.Bool.{cases_lt}
use Rattle.rule_system.specs.declared.rules.Rule.{Rule}
use Rattle.rule_system.specs.Rules.{offset_sum}
use Rattle.rule_system.specs.Walks.{IsConnected, IsKept, IsLive, Reaches, has_no_offset}
use Rattle.rule_system.specs.FirstCycle.{IsFirstCycle}
use Rattle.liveness_check.specs.declared.faults.LiveFault.{LiveFault}
use Rattle.liveness_check.specs.declared.faults.LiveFault.TheVariants.{Unreached, NoReturn, Dead, Memory}
use Rattle.liveness_check.specs.Liveness.{IsFault}

-- two events of which a property does not hold, but of all below them, are one
same_event : (P : ℕ → Type 0) (event other : ℕ) → (P event → ⊥) → ((n : ℕ) → n < event → P n) → (P other → ⊥) → ((n : ℕ) → n < other → P n) → event ≡ other
same_event P event other d below d' below' = go (cases_lt event other) (cases_lt other event)
  where
    go : (event < other) ⊎ (other ≤ event) → (other < event) ⊎ (event ≤ other) → event ≡ other
    go (inl h) k = absurd (d (below' event h))
    go (inr h) (inl k) = absurd (d' (below other k))
    go (inr h) (inr k) = omega arith

-- of the cycles of rules of offset 0 one is the first
pub record IsOneFirst (rules : List Rule) : Type 0 where
  pub same : (cycle other : List ℕ) → IsFirstCycle rules (has_no_offset rules) cycle → IsFirstCycle rules (has_no_offset rules) other → cycle ≡ other

pub same_fault : (events : ℕ) (rs : List Rule) (root : ℕ) (fault other : LiveFault) → IsOneFirst rs → IsFault events rs root fault → IsFault events rs root other → fault ≢ Memory → other ≢ Memory → fault ≡ other
same_fault events rs root (Unreached e) (Unreached e') one h k m n = ap Unreached (same_event (Reaches rs root) e e' h.unreached h.least k.unreached k.least)
same_fault events rs root (Unreached e) (NoReturn e') one h k m n = absurd (h.unreached (k.0 e h.is_event))
same_fault events rs root (Unreached e) (Dead c) one h k m n = absurd (h.unreached (k.0 e h.is_event).0)
same_fault events rs root (NoReturn e) (Unreached e') one h k m n = absurd (k.unreached (h.0 e' k.is_event))
same_fault events rs root (NoReturn e) (NoReturn e') one h k m n = ap NoReturn (same_event (λ (x : ℕ). Reaches rs x root) e e' h.1.without_return h.1.least k.1.without_return k.1.least)
same_fault events rs root (NoReturn e) (Dead c) one h k m n = absurd (h.1.without_return (k.0 e h.1.is_event).1)
same_fault events rs root (Dead c) (Unreached e) one h k m n = absurd (k.unreached (h.0 e k.is_event).0)
same_fault events rs root (Dead c) (NoReturn e) one h k m n = absurd (k.1.without_return (h.0 e k.1.is_event).1)
same_fault events rs root (Dead c) (Dead d) one h k m n = ap Dead (one.same c d h.1 k.1)
same_fault events rs root (Unreached e) Memory one h k m n = absurd (n refl)
same_fault events rs root (NoReturn e) Memory one h k m n = absurd (n refl)
same_fault events rs root (Dead c) Memory one h k m n = absurd (n refl)
same_fault events rs root Memory other one h k m n = absurd (m refl)

-- a cycle of rules of offset 0 has none
pub record DeadHaveNone (rules : List Rule) : Type 0 where
  pub none : (cycle : List ℕ) → IsKept (has_no_offset rules) cycle → offset_sum rules cycle ≡ 0

pub no_fault : (events : ℕ) (rs : List Rule) (root : ℕ) (fault : LiveFault) → DeadHaveNone rs → IsConnected events rs root → IsLive rs → IsFault events rs root fault → fault ≡ Memory
no_fault events rs root (Unreached e) dead connected live f = absurd (f.unreached (connected e f.is_event).0)
no_fault events rs root (NoReturn e) dead connected live f = absurd (f.1.without_return (connected e f.1.is_event).1)
no_fault events rs root (Dead c) dead connected live f = absurd (omega (arith, dead.none c f.1.is_kept, live c f.1.is_cycle))
no_fault events rs root Memory dead connected live f = refl
