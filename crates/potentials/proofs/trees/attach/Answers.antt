use Rattle.std.proofs.Common.{arith}
use Rattle.std.proofs.lemmas.Int.{ints}
use Rattle.potentials.proofs.Growth.{reached_within, tree_put, wider}
use Rattle.potentials.proofs.trees.attach.Goals as goal

pub offered-requires-clause-within : goal.offered-requires-clause-within
offered-requires-clause-within c = wider _ (reached_within _ _ _ _ _ _ _ _ c.requires.ratio.0 c.requires.ratio.1 c.rules.ensures.system c.requires.root c.requires.tree c.if-reached-rule.true)

pub returns-then-not-reached-rule-clause-tree : goal.returns-then-not-reached-rule-clause-tree
returns-then-not-reached-rule-clause-tree c = rw c.rules.ensures.rules (tree_put _ _ _ _ _ _ _ _ _ (let e = rw c.rules.ensures.rules at c.offered.ensures in omega (arith, ints)) c.requires.number (c.rules.ensures.ends c.args.number c.requires.number).1 c.requires.tree (rw c.rules.ensures.rules at c.if-reached-rule.true) (rw c.rules.ensures.rules at c.if-not-reached-rule.true))
