use Rattle.std.proofs.Common.{◌≡◌, ◌<◌, ℕ, true, false, length}
use Rattle.std.proofs.lemmas.List.{get_or-replicate}
use Rattle.rule_system.specs.FirstCycle.{kept_by}
use Rattle.cycle_ratio.proofs.Trees.{all_kept, first_short}
use Rattle.cycle_ratio.proofs.periods.any_cycle.Goals as goal

pub unreachable-requires : goal.unreachable-requires
unreachable-requires c = (rw c.in-None.is at c.in_ok-cycle.ensures.none) c.requires.0 (c.requires.1) (all_kept _ (kept_by c.deref.result.now) (λ n k. flag n k) c.requires.0 c.requires.1)
  where
    flag : (n : ℕ) → n < length c.args.system.now.rules → kept_by c.deref.result.now n ≡ true
    flag n k = rw (c.deref.ensures.value, c.in_ok-keep.ensures, c.rules.ensures.rules) (get_or-replicate _ n true false k)

pub returns : goal.returns
returns c = first_short _ _ _ _ c.rules.ensures.ends (rw c.in-Some.is at c.in_ok-cycle.ensures.some)
