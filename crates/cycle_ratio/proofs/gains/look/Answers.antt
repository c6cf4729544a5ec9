use Rattle.cycle_ratio.proofs.Trees.{none_chosen, first_short, chosen_gains, tree_small}
use Rattle.cycle_ratio.proofs.gains.look.Goals as goal

pub returns-in-Some-clause-cycle : goal.returns-in-Some-clause-cycle
returns-in-Some-clause-cycle c = first_short _ _ _ _ c.rules.ensures.ends (rw c.in-Some.is at c.in_ok-cycle.ensures.some)

pub returns-in-Some-clause-gains : goal.returns-in-Some-clause-gains
returns-in-Some-clause-gains c =
    let same = rw c.rules.ensures.rules at c.in_ok-chosen.ensures.chosen in
    chosen_gains _ _ _ _ _ _ _ _ (rw c.deref.ensures.value same) c.requires.tree (rw c.in-Some.is at c.in_ok-cycle.ensures.some)

pub returns-clause-small : goal.returns-clause-small
returns-clause-small c =
    let same = rw c.rules.ensures.rules at c.in_ok-chosen.ensures.chosen in
    tree_small _ _ _ _ _ _ c.requires.bottom c.rules.ensures.system c.requires.tree (none_chosen _ _ _ (rw c.deref.ensures.value same) (rw c.in-None.is at c.in_ok-cycle.ensures.none))
