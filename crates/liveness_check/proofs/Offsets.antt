-- Cycles of rules of offset 0, and how flags tell these rules.
use Rattle.std.proofs.Common.{◌≡◌, ℕ, ◌<◌, ◌≤◌, ◌==◌, Bool, true, false, List, [], ◌∷◌, length, map, sym, ◌∙◌, ◌⊎◌, inl, inr, arith}
use Rattle.std.proofs.lemmas.Bool.{cases_lt}
use Rattle.std.proofs.lemmas.Bool.Decides.{nat_tests}
use Rattle.std.proofs.lemmas.List.{get_or-map}
use Rattle.rule_system.specs.declared.rules.Rule.{Rule}
use Rattle.rule_system.specs.Rules.{no_rule, rule_at, source_of, target_of, offset_sum}
use Rattle.rule_system.specs.Walks.{IsWalk, IsCycle, IsKept, IsLive, has_no_offset}
use Rattle.rule_system.specs.FirstCycle.{IsFirstCycle, kept_by}

-- the flags
abbrev pub flags_of : List Rule → List Bool
flags_of rs = map (λ rule. rule.offset == 0) rs

flag_at : (rs : List Rule) (n : ℕ) → n < length rs → kept_by (flags_of rs) n ≡ has_no_offset rs n
flag_at rs n h = get_or-map (λ (rule : Rule). rule.offset == 0) rs n no_rule false h

to_flags : (rs : List Rule) (a : ℕ) (w : List ℕ) (b : ℕ) → IsWalk rs a w b → IsKept (has_no_offset rs) w → IsKept (kept_by (flags_of rs)) w
to_flags rs a [] b h k = tt
to_flags rs a (n ∷ w) b h k = (flag_at rs n h.0 ∙ k.0, to_flags rs (target_of rs n) w b h.2 k.1)

from_flags : (rs : List Rule) (a : ℕ) (w : List ℕ) (b : ℕ) → IsWalk rs a w b → IsKept (kept_by (flags_of rs)) w → IsKept (has_no_offset rs) w
from_flags rs a [] b h k = tt
from_flags rs a (n ∷ w) b h k = (sym (flag_at rs n h.0) ∙ k.0, from_flags rs (target_of rs n) w b h.2 k.1)

cycle_to_flags : (rs : List Rule) (c : List ℕ) → IsCycle rs c → IsKept (has_no_offset rs) c → IsKept (kept_by (flags_of rs)) c
cycle_to_flags rs [] h k = absurd h
cycle_to_flags rs (n ∷ w) h k = to_flags rs (source_of rs n) (n ∷ w) (source_of rs n) h k

cycle_from_flags : (rs : List Rule) (c : List ℕ) → IsCycle rs c → IsKept (kept_by (flags_of rs)) c → IsKept (has_no_offset rs) c
cycle_from_flags rs [] h k = absurd h
cycle_from_flags rs (n ∷ w) h k = from_flags rs (source_of rs n) (n ∷ w) (source_of rs n) h k

pub first_by_flags : (rs : List Rule) (cycle : List ℕ) → IsFirstCycle rs (kept_by (flags_of rs)) cycle → IsFirstCycle rs (has_no_offset rs) cycle
first_by_flags rs cycle h = record {
  is_cycle = h.is_cycle;
  is_kept = cycle_from_flags rs cycle h.is_cycle h.is_kept;
  first = λ other c k. h.first other c (cycle_to_flags rs other c k);
}

-- a walk whose offsets sum to 0 has rules of offset 0
no_offsets : (rs : List Rule) (w : List ℕ) → offset_sum rs w ≡ 0 → IsKept (has_no_offset rs) w
no_offsets rs [] h = tt
no_offsets rs (n ∷ w) h =
    let here : (rule_at rs n).offset ≡ 0 = omega arith in
    (test (rule_at rs n).offset here, no_offsets rs w (omega arith))
  where
    test : (a : ℕ) → a ≡ 0 → (a == 0) ≡ true
    test a e = grind (arith, nat_tests)

pub live_by_flags : (rs : List Rule) → ((cycle : List ℕ) → IsCycle rs cycle → IsKept (kept_by (flags_of rs)) cycle → ⊥) → IsLive rs
live_by_flags rs none cycle h = go (cases_lt 0 (offset_sum rs cycle))
  where
    go : (0 < offset_sum rs cycle) ⊎ (offset_sum rs cycle ≤ 0) → 1 ≤ offset_sum rs cycle
    go (inl p) = omega arith
    go (inr z) = absurd (none cycle h (cycle_to_flags rs cycle h (no_offsets rs cycle (omega arith))))
