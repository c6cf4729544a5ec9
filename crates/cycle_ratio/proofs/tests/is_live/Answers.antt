use Rattle.cycle_ratio.proofs.Trees.{live_from_flags}
use Rattle.cycle_ratio.proofs.tests.is_live.Goals as goal

pub returns : goal.returns
returns c = λ e. live_from_flags _ _ (let flags = rw c.rules.ensures.rules at c.in_ok-keep.ensures.kept in rw c.deref.ensures.value flags) (rw c.in_default.is at c.in_ok-dead.ensures.none)
