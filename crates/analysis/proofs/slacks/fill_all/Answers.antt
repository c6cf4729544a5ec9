use Rattle.analysis.proofs.Roots.{filled_first, forks_within}
use Rattle.analysis.proofs.slacks.fill_all.Goals as goal

pub fill-requires-clause-forks : goal.fill-requires-clause-forks
fill-requires-clause-forks c = forks_within _ _ _ c.requires.arrivals.0.0 c.requires.forks

pub fill_each-requires-clause-first : goal.fill_each-requires-clause-first
fill_each-requires-clause-first c =
    filled_first _ _ _ _ _ _ _ _ _ _ c.requires.arrivals.0 c.requires.forks (record { counts = c.fill.ensures.count; slacks = c.fill.ensures.slacks })
