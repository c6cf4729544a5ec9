use Rattle.std.proofs.Common.{ℕ, List}
use Rattle.rule_system.specs.Walks.{IsCycle, IsKept, IsLive, has_no_offset}
use Rattle.rule_system.specs.FirstCycle.{IsFirstCycle, kept_by}
use Rattle.liveness_check.proofs.Outcomes.{ok_some, ok_none}
use Rattle.liveness_check.proofs.Offsets.{flags_of, first_by_flags, live_by_flags}
use Rattle.liveness_check.proofs.liveness.dead_cycle.Goals as goal

pub returns-clause-some : goal.returns-clause-some
returns-clause-some c =
    ok_some c.first_cycle.result
    (IsFirstCycle c.args.system.now.rules (kept_by (flags_of c.args.system.now.rules)))
    (IsFirstCycle c.args.system.now.rules (has_no_offset c.args.system.now.rules))
    (first_by_flags c.args.system.now.rules)
    (rw (c.deref.ensures.value, c.in_ok-keep.ensures, c.rules.ensures.rules) at c.first_cycle.ensures.some)

pub returns-clause-none : goal.returns-clause-none
returns-clause-none c =
    ok_none c.first_cycle.result
    ((cycle : List ℕ) → IsCycle c.args.system.now.rules cycle → IsKept (kept_by (flags_of c.args.system.now.rules)) cycle → ⊥)
    (IsLive c.args.system.now.rules)
    (live_by_flags c.args.system.now.rules)
    (rw (c.deref.ensures.value, c.in_ok-keep.ensures, c.rules.ensures.rules) at c.first_cycle.ensures.none)
