use Rattle.potentials.proofs.Growth.{first_tree, weights_all_within, whole_tree_weights}
use Rattle.potentials.proofs.trees.grow.Goals as goal

pub follow-requires-clause-tree : goal.follow-requires-clause-tree
follow-requires-clause-tree c = rw (c.requires.zeros, c.requires.unreached) (first_tree _ _ _ _ _ c.requires.root)

pub returns-clause-weights : goal.returns-clause-weights
returns-clause-weights c = whole_tree_weights _ _ _ _ _ _ _ c.complete.ensures.tree c.complete.ensures.all

pub returns-clause-within : goal.returns-clause-within
returns-clause-within c = weights_all_within _ _ _ _ _ _ c.requires.ratio.0 c.requires.ratio.1 c.complete.ensures.system c.requires.root (whole_tree_weights _ _ _ _ _ _ _ c.complete.ensures.tree c.complete.ensures.all)
