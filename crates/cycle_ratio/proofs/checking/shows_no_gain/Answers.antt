use Rattle.cycle_ratio.proofs.checking.shows_no_gain.Goals as goal

pub returns : goal.returns
returns c = λ e. c.feasible_numbers_bound_cycles.ensures _ _ _ _ (c.feasible.ensures.0 e)
