use Rattle.first_cycle.proofs.Turned.{levels_turned, ok_then}
use Rattle.first_cycle.proofs.levels.levels_from.Goals as goal

pub returns : goal.returns
returns c = ok_then c.levels_along.result _ _ c.levels_along.ensures (λ levels h. levels_turned _ _ _ _ levels.items h)
