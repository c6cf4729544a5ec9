-- Cycles without offset are those of rules without offset.
use Rattle.std.proofs.Common.{◌≡◌, ℕ, ◌<◌, ◌≤◌, ◌==◌, true, List, [], ◌∷◌, arith, ◌⊎◌, inl, inr}
use Rattle.std.proofs.lemmas.Bool.{cases_lt}
use Rattle.std.proofs.lemmas.Bool.Decides.{nat_tests}
use Rattle.rule_system.specs.declared.rules.Rule.{Rule}
use Rattle.rule_system.specs.Rules.{rule_at, offset_sum}
use Rattle.rule_system.specs.Walks.{IsCycle, IsLive, IsKept, has_no_offset}

pub to_test : (n : ℕ) → n ≡ 0 → (n == 0) ≡ true
to_test n h = grind (arith, nat_tests)

pub from_test : (n : ℕ) → (n == 0) ≡ true → n ≡ 0
from_test n h = grind (arith, nat_tests)

all_without : (rs : List Rule) (w : List ℕ) → offset_sum rs w ≡ 0 → IsKept (has_no_offset rs) w
all_without rs [] h = tt
all_without rs (n ∷ w) h = (to_test (rule_at rs n).offset (omega arith), all_without rs w (omega arith))

pub no_offset : (rs : List Rule) (w : List ℕ) → IsKept (has_no_offset rs) w → offset_sum rs w ≡ 0
no_offset rs [] h = omega arith
no_offset rs (n ∷ w) h =
    let here : (rule_at rs n).offset ≡ 0 = from_test (rule_at rs n).offset h.0 in
    let rest : offset_sum rs w ≡ 0 = no_offset rs w h.1 in
    omega arith

pub live_from_none_dead : (rs : List Rule) → ((cycle : List ℕ) → IsCycle rs cycle → IsKept (has_no_offset rs) cycle → ⊥) → IsLive rs
live_from_none_dead rs none cycle c = go (cases_lt 0 (offset_sum rs cycle))
  where
    go : (0 < offset_sum rs cycle) ⊎ (offset_sum rs cycle ≤ 0) → 1 ≤ offset_sum rs cycle
    go (inl h) = omega arith
    go (inr h) = absurd (none cycle c (all_without rs cycle (omega arith)))
